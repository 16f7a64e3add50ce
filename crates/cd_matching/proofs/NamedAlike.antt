-- Where one of two patterns that are alike has no fault of its variables, the other one has none.
use Rattle.std.proofs.Common.{Bool, ◌||◌, List, [], ◌∷◌, sym, ap, subst, ◌∙◌}
use Rattle.std.specs.List.{list_any}
use Rattle.std.specs.Prelude.{bytes_eq}
use Rattle.cd_syntax.specs.Name.{Name}
use Rattle.cd_matching.specs.Naming.{AreDisjointNames, AreSame, GathersDisjoint, GatherDisjoint, FieldsDisjoint}
use Rattle.cd_matching.specs.Naming.{LabelsDiffer, IsNamed, AreNamedDisjoint, AreNamedSame, AreNamedAs}
use Rattle.cd_matching.specs.Naming.{AreNamedFields, IsNamedRegular, AreNamedInTurn}
use Rattle.cd_matching.specs.Naming.{AreNamedEither, AreNamedLike}
use Rattle.cd_matching.specs.Pattern as pattern
use Rattle.cd_matching.specs.Pattern.{Pattern, Patterns, NoPattern, APattern, Fields, NoField}
use Rattle.cd_matching.specs.Pattern.{Present, Optional, Regular, Regulars, NoRegular, ARegular}
use Rattle.cd_matching.specs.PatternsAlike.{Alike, AlikeAll, AlikeFields, AlikeRegular}
use Rattle.cd_matching.specs.PatternsAlike.{AlikeRegulars}
use Rattle.cd_matching.specs.Variables.{binds, all_bind, fields_bind, is_gathered, is_plain}
use Rattle.cd_matching.specs.Variables.{one_is_plain, names_label}
use Rattle.cd_matching.proofs.VariablesAlike.{either_of, bind_alike, all_alike, fields_alike}
use Rattle.cd_matching.proofs.VariablesAlike.{gathered_alike, plain_alike, plains_alike}
use Rattle.cd_matching.proofs.VariablesAlike.{labels_alike}

apart_same : (a b c d : Name → Bool) → AreSame a b → AreSame c d → AreDisjointNames b d → AreDisjointNames a c
apart_same a b c d one other apart name h = other name ∙ apart name (sym (one name) ∙ h)

same_same : (a b c d : Name → Bool) → AreSame a b → AreSame c d → AreSame b d → AreSame a c
same_same a b c d one other same name = one name ∙ same name ∙ sym (other name)

module _ {T U : Type 0} (Are : T → U → Type 0) where
  mutual
    around_alike : (around : List Name) (is : Regular T) (other : Regular U)
        → AlikeRegular Are is other → GathersDisjoint around other → GathersDisjoint around is
    around_alike around pattern.Nothing pattern.Nothing h apart = tt
    around_alike around (pattern.Item a) (pattern.Item b) h apart = tt
    around_alike around (pattern.Seq a) (pattern.Seq b) h apart = arounds_alike around a b h apart
    around_alike around (pattern.Alt a) (pattern.Alt b) h apart = arounds_alike around a b h apart
    around_alike around (pattern.Repeat a p) (pattern.Repeat b q) h apart =
        around_alike around a b h.0 apart
    around_alike around (pattern.Capture n a) (pattern.Capture m b) h apart = (
      ap (λ (k : Name). list_any (bytes_eq k) around) h.0 ∙ apart.0,
      around_alike (n ∷ around) a b h.1
          (subst (λ (k : Name). GathersDisjoint (k ∷ around) b) (sym h.0) apart.1),
    )
    around_alike around _ _ h apart = absurd h

    arounds_alike : (around : List Name) (is : Regulars T) (other : Regulars U)
        → AlikeRegulars Are is other → GatherDisjoint around other → GatherDisjoint around is
    arounds_alike around NoRegular NoRegular h apart = tt
    arounds_alike around (ARegular a b) (ARegular c d) h apart =
        (around_alike around a c h.0 apart.0, arounds_alike around b d h.1 apart.1)
    arounds_alike around _ _ h apart = absurd h

  differ_alike : (is : Fields T) (other : Fields U) → AlikeFields Are is other → LabelsDiffer other
      → LabelsDiffer is
  differ_alike NoField NoField h differ = tt
  differ_alike (Present l a b) (Present m c d) h differ = (
    labels_alike Are b d h.2 l ∙ ap (names_label d) h.0 ∙ differ.0,
    differ_alike b d h.2
        differ.1,
  )
  differ_alike (Optional l a b) (Optional m c d) h differ = (
    labels_alike Are b d h.2 l ∙ ap (names_label d) h.0 ∙ differ.0,
    differ_alike b d h.2
        differ.1,
  )
  differ_alike _ _ h differ = absurd h

  apart_alike : (is : Fields T) (other : Fields U) → AlikeFields Are is other → FieldsDisjoint other
      → FieldsDisjoint is
  apart_alike NoField NoField h apart = tt
  apart_alike (Present l a b) (Present m c d) h apart = (
    apart_same (binds a) (binds c) (fields_bind b) (fields_bind d) (bind_alike Are a c h.1)
        (fields_alike Are b d h.2) apart.0,
    apart_alike b d h.2 apart.1,
  )
  apart_alike (Optional l a b) (Optional m c d) h apart = apart_alike b d h.2 apart
  apart_alike _ _ h apart = absurd h

  mutual
    pub named_alike : (is : Pattern T) (other : Pattern U) → Alike Are is other → IsNamed other
        → IsNamed is
    named_alike (pattern.OfType a) (pattern.OfType b) h fine = tt
    named_alike (pattern.Bind a) (pattern.Bind b) h fine = tt
    named_alike (pattern.Default a c) (pattern.Default b d) h fine = tt
    named_alike (pattern.Pair a b) (pattern.Pair c d) h fine = (
      apart_same (binds a) (binds c) (binds b) (binds d) (bind_alike Are a c h.0)
          (bind_alike Are b d h.1) fine.0,
      named_alike a c h.0 fine.1,
      named_alike b d h.1 fine.2,
    )
    named_alike (pattern.Xml a b c) (pattern.Xml d e f) h fine = (
      apart_same (binds a) (binds d) (λ name. binds b name || binds c name)
          (λ name. binds e name || binds f name) (bind_alike Are a d h.0)
          (λ name. either_of (binds b name) (binds e name) (binds c name) (binds f name) (bind_alike
          Are b e h.1 name) (bind_alike Are c f h.2 name)) fine.0,
      apart_same (binds b) (binds e) (binds c) (binds f) (bind_alike Are b e h.1)
          (bind_alike Are c f h.2) fine.1,
      named_alike a d h.0 fine.2,
      named_alike b e h.1 fine.3,
      named_alike c f h.2 fine.4,
    )
    named_alike (pattern.Record a more) (pattern.Record b same) h fine =
        (differ_alike a b h.0 fine.0, apart_alike a b h.0 fine.1, fields_named a b h.0 fine.2)
    named_alike (pattern.Both a) (pattern.Both b) h fine = both_named a b h fine
    named_alike (pattern.First a) (pattern.First b) h fine = first_named a b h fine
    named_alike (pattern.Sequence a) (pattern.Sequence b) h fine = (
      around_alike [] a b h fine.0,
      apart_same (is_gathered a) (is_gathered b) (is_plain a) (is_plain b)
          (gathered_alike Are a b h) (plain_alike Are a b h) fine.1,
      regular_named a b h fine.2,
    )
    named_alike _ _ h fine = absurd h

    both_named : (is : Patterns T) (other : Patterns U) → AlikeAll Are is other
        → AreNamedDisjoint other → AreNamedDisjoint is
    both_named NoPattern NoPattern h fine = tt
    both_named (APattern a b) (APattern c d) h fine = (
      apart_same (binds a) (binds c) (all_bind b) (all_bind d) (bind_alike Are a c h.0)
          (all_alike Are b d h.1) fine.0,
      named_alike a c h.0 fine.1,
      both_named b d h.1 fine.2,
    )
    both_named _ _ h fine = absurd h

    first_named : (is : Patterns T) (other : Patterns U) → AlikeAll Are is other
        → AreNamedSame other → AreNamedSame is
    first_named NoPattern NoPattern h fine = tt
    first_named (APattern a b) (APattern c d) h fine = (
      named_alike a c h.0 fine.0,
      as_named (binds a) (binds c) (bind_alike Are a c h.0) b d h.1
          fine.1,
    )
    first_named _ _ h fine = absurd h

    as_named : (x y : Name → Bool) → AreSame x y → (is : Patterns T) (other : Patterns U)
        → AlikeAll Are is other → AreNamedAs y other → AreNamedAs x is
    as_named x y same NoPattern NoPattern h fine = tt
    as_named x y same (APattern a b) (APattern c d) h fine = (
      same_same (binds a) (binds c) x y (bind_alike Are a c h.0) same fine.0,
      named_alike a c h.0 fine.1,
      as_named x y same b d h.1 fine.2,
    )
    as_named x y same _ _ h fine = absurd h

    fields_named : (is : Fields T) (other : Fields U) → AlikeFields Are is other
        → AreNamedFields other → AreNamedFields is
    fields_named NoField NoField h fine = tt
    fields_named (Present l a b) (Present m c d) h fine =
        (named_alike a c h.1 fine.0, fields_named b d h.2 fine.1)
    fields_named (Optional l a b) (Optional m c d) h fine = fields_named b d h.2 fine
    fields_named _ _ h fine = absurd h

    regular_named : (is : Regular T) (other : Regular U) → AlikeRegular Are is other
        → IsNamedRegular other → IsNamedRegular is
    regular_named pattern.Nothing pattern.Nothing h fine = tt
    regular_named (pattern.Item a) (pattern.Item b) h fine = named_alike a b h fine
    regular_named (pattern.Seq a) (pattern.Seq b) h fine = turn_named a b h fine
    regular_named (pattern.Alt a) (pattern.Alt b) h fine = either_named a b h fine
    regular_named (pattern.Repeat a p) (pattern.Repeat b q) h fine =
        (λ name. plain_alike Are a b h.0 name ∙ fine.0 name, regular_named a b h.0 fine.1)
    regular_named (pattern.Capture n a) (pattern.Capture m b) h fine = regular_named a b h.1 fine
    regular_named _ _ h fine = absurd h

    turn_named : (is : Regulars T) (other : Regulars U) → AlikeRegulars Are is other
        → AreNamedInTurn other → AreNamedInTurn is
    turn_named NoRegular NoRegular h fine = tt
    turn_named (ARegular a b) (ARegular c d) h fine = (
      apart_same (is_plain a) (is_plain c) (one_is_plain b) (one_is_plain d)
          (plain_alike Are a c h.0) (plains_alike Are b d h.1) fine.0,
      regular_named a c h.0 fine.1,
      turn_named b d h.1 fine.2,
    )
    turn_named _ _ h fine = absurd h

    either_named : (is : Regulars T) (other : Regulars U) → AlikeRegulars Are is other
        → AreNamedEither other → AreNamedEither is
    either_named NoRegular NoRegular h fine = tt
    either_named (ARegular a b) (ARegular c d) h fine = (
      regular_named a c h.0 fine.0,
      like_named (is_plain a) (is_plain c) (plain_alike Are a c
          h.0) b d h.1 fine.1,
    )
    either_named _ _ h fine = absurd h

    like_named : (x y : Name → Bool) → AreSame x y → (is : Regulars T) (other : Regulars U)
        → AlikeRegulars Are is other → AreNamedLike y other → AreNamedLike x is
    like_named x y same NoRegular NoRegular h fine = tt
    like_named x y same (ARegular a b) (ARegular c d) h fine = (
      same_same (is_plain a) (is_plain c) x y (plain_alike Are a c h.0) same fine.0,
      regular_named a c h.0 fine.1,
      like_named x y same b d h.1 fine.2,
    )
    like_named x y same _ _ h fine = absurd h
