-- Where a pattern without a fault of its variables takes a thing, each variable that stands in it
-- captures something.
use Rattle.std.proofs.Common.{◌≡◌, Bool, true, false, ◌||◌, List, [], ◌∷◌, map, ◌⊎◌, inl, inr}
use Rattle.std.proofs.Common.{Option, Some, None, option_map, refl, sym, ap, ◌∙◌, bytes_eq}
use Rattle.std.proofs.Common.{if◌then◌else◌}
use Rattle.std.proofs.lemmas.Bool.{true≢false, or_cases, or_left, or_right, or_from}
use Rattle.std.proofs.lemmas.Option.{none-some}
use Rattle.cd_syntax.specs.Name.{Name}
use Rattle.cd_model.proofs.Covered.{each_both}
use Rattle.cd_model.specs.AllOf.{AllOf}
use Rattle.cd_model.specs.Thing as thing
use Rattle.cd_model.specs.Thing.{Thing}
use Rattle.cd_matching.specs.Captures.{Captures, just, or_else, both}
use Rattle.cd_matching.specs.Naming.{IsNamed, AreNamedDisjoint, AreNamedSame, AreNamedAs}
use Rattle.cd_matching.specs.Naming.{AreNamedFields, IsNamedRegular, AreNamedInTurn}
use Rattle.cd_matching.specs.Naming.{AreNamedEither, AreNamedLike}
use Rattle.cd_matching.specs.Pattern as pattern
use Rattle.cd_matching.specs.Pattern.{Pattern, Patterns, NoPattern, APattern, Fields, NoField}
use Rattle.cd_matching.specs.Pattern.{Present, Optional, Regular, Regulars, NoRegular, ARegular}
use Rattle.cd_matching.specs.Sequences.{sequence_of, items, thing_of}
use Rattle.cd_matching.specs.Take.{Taking, at_label, all_named, take_pair, take_xml, take_record}
use Rattle.cd_matching.specs.Take.{take_present, take_optional, captures_of, take_items}
use Rattle.cd_matching.specs.Take.{ways_taking, ways_of_item, take, take_all, take_first}
use Rattle.cd_matching.specs.Take.{take_fields, ways, ways_in_turn, ways_of_one}
use Rattle.cd_matching.specs.Variables.{binds, all_bind, fields_bind, regular_binds, regulars_bind}
use Rattle.cd_matching.specs.Variables.{is_gathered, one_is_gathered, is_plain, one_is_plain}
use Rattle.cd_matching.specs.Ways.{Way, Ways, followed, gathers, then_, if_whole, first_whole}
use Rattle.cd_matching.proofs.AllOf.{all_map}

-- a variable of an expression gathers or is plain
mutual
  pub gathered_or_plain : {T : Type 0} (r : Regular T) (name : Name) → regular_binds r name ≡ true
      → (is_gathered r name ≡ true) ⊎ (is_plain r name ≡ true)
  gathered_or_plain pattern.Nothing name h = absurd (true≢false (sym h))
  gathered_or_plain (pattern.Item p) name h = inr h
  gathered_or_plain (pattern.Seq all) name h = one_or_plain all name h
  gathered_or_plain (pattern.Alt all) name h = one_or_plain all name h
  gathered_or_plain (pattern.Repeat r how) name h = gathered_or_plain r name h
  gathered_or_plain (pattern.Capture variable r) name h =
      by_side (or_cases (bytes_eq variable name) (regular_binds r name) h)
      (gathered_or_plain r name)
    where
      by_side : (bytes_eq variable name ≡ true) ⊎ (regular_binds r name ≡ true)
          → (regular_binds r name ≡ true → (is_gathered r name ≡ true) ⊎ (is_plain r name ≡ true))
          → ((bytes_eq variable name || is_gathered r name) ≡ true) ⊎ (is_plain r name ≡ true)
      by_side (inl here) later = inl (or_left (bytes_eq variable name) (is_gathered r name) here)
      by_side (inr there) later = elim (later there) [
        | inl gathered ↦ inl (or_right (bytes_eq variable name) (is_gathered r name) gathered)
        | inr plain ↦ inr plain
      ]

  one_or_plain : {T : Type 0} (all : Regulars T) (name : Name) → regulars_bind all name ≡ true
      → (one_is_gathered all name ≡ true) ⊎ (one_is_plain all name ≡ true)
  one_or_plain NoRegular name h = absurd (true≢false (sym h))
  one_or_plain (ARegular first rest) name h =
      by_side (or_cases (regular_binds first name) (regulars_bind rest name) h)
      (gathered_or_plain first name) (one_or_plain rest name)
    where
      by_side : (regular_binds first name ≡ true) ⊎ (regulars_bind rest name ≡ true)
          → (regular_binds first name ≡ true
          → (is_gathered first name ≡ true) ⊎ (is_plain first name ≡ true))
          → (regulars_bind rest name ≡ true
          → (one_is_gathered rest name ≡ true) ⊎ (one_is_plain rest name ≡ true))
          → ((is_gathered first name || one_is_gathered rest name) ≡ true)
          ⊎ ((is_plain first name || one_is_plain rest name) ≡ true)
      by_side (inl here) one other = elim (one here) [
        | inl gathered ↦
            inl (or_left (is_gathered first name) (one_is_gathered rest name) gathered)
        | inr plain ↦ inr (or_left (is_plain first name) (one_is_plain rest name) plain)
      ]
      by_side (inr later) one other = elim (other later) [
        | inl gathered ↦
            inl (or_right (is_gathered first name) (one_is_gathered rest name) gathered)
        | inr plain ↦ inr (or_right (is_plain first name) (one_is_plain rest name) plain)
      ]

module _ (name : Name) where
  abbrev IsSomething : Option Thing → Type 0
  IsSomething o = (what : Thing) × (o ≡ Some what)

  abbrev pub Has : Option (Captures Name) → Type 0
  Has None = Unit {0}
  Has (Some captures) = IsSomething (captures name)

  first_is : (one other : Option Thing) → IsSomething one → IsSomething (or_else one other)
  first_is (Some d) other is = (d, refl)
  first_is None other is = absurd (none-some is.0 is.1)

  second_is : (one other : Option Thing) → IsSomething other → IsSomething (or_else one other)
  second_is (Some d) other is = (d, refl)
  second_is None other is = is

  first_has : (one other : Option (Captures Name)) → Has one → Has (both one other)
  first_has None other has = tt
  first_has (Some captures) None has = tt
  first_has (Some captures) (Some others) has = first_is (captures name) (others name) has

  second_has : (one other : Option (Captures Name)) → Has other → Has (both one other)
  second_has None other has = tt
  second_has (Some captures) None has = tt
  second_has (Some captures) (Some others) has = second_is (captures name) (others name) has

  -- it stands in one of two parts
  has_both : (a b : Bool) (one other : Option (Captures Name)) → (a ≡ true → Has one)
      → (b ≡ true → Has other) → (a || b) ≡ true → Has (both one other)
  has_both a b one other first second h = elim (or_cases a b h) [
    | inl here ↦ first_has one other (first here)
    | inr there ↦ second_has one other (second there)
  ]

  has_or : (one other : Option (Captures Name)) → Has one → Has other → Has (or_else one other)
  has_or None other first second = second
  has_or (Some captures) other first second = first

  has_just : (variable : Name) (d : Thing) → bytes_eq variable name ≡ true
      → Has (Some (just variable d))
  has_just variable d same = (d, ap (λ (b : Bool). if b then Some d else None) same)

  has_if : (b : Bool) (o : Option (Captures Name)) → Has o → Has (if b then o else None)
  has_if true o has = has
  has_if false o has = tt

  abbrev HasAll : Taking → Type 0
  HasAll takes = (d : Thing) → Has (takes d)

  has_pair : (a b : Bool) (p q : Taking) → (a ≡ true → HasAll p) → (b ≡ true → HasAll q)
      → (a || b) ≡ true → HasAll (take_pair p q)
  has_pair a b p q first second h (thing.Pair d e) =
      has_both a b (p d) (q e) (λ so. first so d) (λ so. second so e) h
  has_pair a b p q first second h _ = tt

  has_xml : (a b c : Bool) (p q r : Taking) → (a ≡ true → HasAll p) → (b ≡ true → HasAll q)
      → (c ≡ true → HasAll r) → (a || (b || c)) ≡ true → HasAll (take_xml p q r)
  has_xml a b c p q r first second third h (thing.Xml d e f) =
      has_both a (b || c) (p d) (both (q e) (r f)) (λ so. first so d)
      (has_both b c (q e) (r f) (λ so. second so e) (λ so. third so f)) h
  has_xml a b c p q r first second third h _ = tt

  has_record : (more : Bool) (named : thing.Fields → Bool)
      (takes : thing.Fields → Option (Captures Name))
      → ((fields : thing.Fields) → Has (takes fields)) → HasAll (take_record more named takes)
  has_record more named takes has (thing.Record fields) =
      has_if (more || named fields) (takes fields) (has fields)
  has_record more named takes has _ = tt

  has_present : (takes : Taking) → HasAll takes → (o : Option Thing)
      → Has (take_present takes o)
  has_present takes has None = tt
  has_present takes has (Some d) = has d

  -- it is a plain variable of a way
  abbrev IsPlain : Way → Type 0
  IsPlain way = IsSomething (way.plain name)

  abbrev AllPlain : Ways → Type 0
  AllPlain ways = (things : List Thing) → AllOf IsPlain (ways things)

  plain_first : (way : Way) → IsPlain way → (ways : List Way)
      → AllOf IsPlain (map (followed way) ways)
  plain_first way plain [] = tt
  plain_first way plain (next ∷ ways) =
      (first_is (way.plain name) (next.plain name) plain, plain_first way plain ways)

  then_first : (next : Ways) (ways : List Way) → AllOf IsPlain ways
      → AllOf IsPlain (then_ ways next)
  then_first next [] all = tt
  then_first next (way ∷ ways) all =
      each_both IsPlain (map (followed way) (next way.rest)) (then_ ways next)
      (plain_first way all.0 (next way.rest)) (then_first next ways all.1)

  then_second : (next : Ways) → AllPlain next → (ways : List Way)
      → AllOf IsPlain (then_ ways next)
  then_second next all [] = tt
  then_second next all (way ∷ ways) =
      each_both IsPlain (map (followed way) (next way.rest)) (then_ ways next)
      (all_map IsPlain IsPlain (followed way)
      (λ other. second_is (way.plain name) (other.plain name)) (next way.rest) (all way.rest))
      (then_second next all ways)

  plain_then : (a b : Bool) (ways : List Way) (next : Ways) → (a ≡ true → AllOf IsPlain ways)
      → (b ≡ true → AllPlain next) → (a || b) ≡ true → AllOf IsPlain (then_ ways next)
  plain_then a b ways next first second h = elim (or_cases a b h) [
    | inl here ↦ then_first next ways (first here)
    | inr there ↦ then_second next (second there) ways
  ]

  plain_item : (takes : Taking) → HasAll takes → AllPlain (ways_of_item takes)
  plain_item takes has [] = tt
  plain_item takes has (d ∷ rest) = by_take (takes d) (has d)
    where
      by_take : (o : Option (Captures Name)) → Has o → AllOf IsPlain (ways_taking d rest o)
      by_take None is = tt
      by_take (Some captures) is = (is, tt)

  whole_gathers : (gathered : Name → Bool) → gathered name ≡ true → (o : Option Way)
      → Has (option_map (captures_of gathered) o)
  whole_gathers gathered h None = tt
  whole_gathers gathered h (Some way) = (
    sequence_of (way.gathered name),
    ap (λ (b : Bool). if b then Some (sequence_of (way.gathered name)) else way.plain name) h,
  )

  whole_plain : (gathered : Name → Bool) (ways : List Way) → AllOf IsPlain ways
      → Has (option_map (captures_of gathered) (first_whole ways))
  whole_plain gathered [] all = tt
  whole_plain gathered (way ∷ ways) all = by_rest way.rest (whole_plain gathered ways all.1)
    where
      by_test : (b : Bool)
          → IsSomething (if b then Some (sequence_of (way.gathered name)) else way.plain name)
      by_test true = (sequence_of (way.gathered name), refl)
      by_test false = all.0

      by_rest : (rest : List Thing) → Has (option_map (captures_of gathered) (first_whole ways))
          → Has (option_map (captures_of gathered) (if_whole way rest (first_whole ways)))
      by_rest [] later = by_test (gathered name)
      by_rest (d ∷ rest) later = later

  has_items : (gathered : Name → Bool) (plain : Bool) (ways : Ways)
      → (gathered name ≡ true) ⊎ (plain ≡ true) → (plain ≡ true → AllPlain ways)
      → (o : Option (List Thing)) → Has (take_items gathered ways o)
  has_items gathered plain ways either all None = tt
  has_items gathered plain ways (inl so) all (Some things) =
      whole_gathers gathered so (first_whole (ways things))
  has_items gathered plain ways (inr so) all (Some things) =
      whole_plain gathered (ways things) (all so things)

  module _ (T : Type 0) (test : T → Thing → Bool) where
    none_binds : (bound : Name → Bool) (all : Patterns T) → AreNamedAs bound all
        → bound name ≡ false → all_bind all name ≡ false
    none_binds bound NoPattern named h = refl
    none_binds bound (APattern p all) named h = or_from (binds p name) (all_bind all name)
        (named.0 name ∙ h) (none_binds bound all named.2 h)

    none_plain : (plain : Name → Bool) (all : Regulars T) → AreNamedLike plain all
        → plain name ≡ false → one_is_plain all name ≡ false
    none_plain plain NoRegular named h = refl
    none_plain plain (ARegular r all) named h = or_from (is_plain r name) (one_is_plain all name)
        (named.0 name ∙ h) (none_plain plain all named.2 h)

    -- what all of a union bind, the first one binds
    first_binds : (p : Pattern T) (all : Patterns T) → AreNamedAs (binds p) all
        → (binds p name || all_bind all name) ≡ true → binds p name ≡ true
    first_binds p all named h = by_case (binds p name) refl
      where
        by_case : (b : Bool) → binds p name ≡ b → binds p name ≡ true
        by_case true is = is
        by_case false is = absurd (true≢false (sym h ∙ or_from (binds p name) (all_bind all name) is
            (none_binds (binds p) all named is)))

    first_plain : (r : Regular T) (all : Regulars T) → AreNamedLike (is_plain r) all
        → (is_plain r name || one_is_plain all name) ≡ true → is_plain r name ≡ true
    first_plain r all named h = by_case (is_plain r name) refl
      where
        by_case : (b : Bool) → is_plain r name ≡ b → is_plain r name ≡ true
        by_case true is = is
        by_case false is = absurd (true≢false (sym h
            ∙ or_from (is_plain r name) (one_is_plain all name) is
            (none_plain (is_plain r) all named is)))

    mutual
      pub has_all : (p : Pattern T) → IsNamed p → binds p name ≡ true → HasAll (take T test p)
      has_all (pattern.OfType type) named h d = absurd (true≢false (sym h))
      has_all (pattern.Bind variable) named h d = has_just variable d h
      has_all (pattern.Default variable constant) named h d =
          has_just variable (thing_of constant) h
      has_all (pattern.Pair p q) named h d = has_pair (binds p name) (binds q name)
          (take T test p) (take T test q) (has_all p named.1) (has_all q named.2) h d
      has_all (pattern.Xml p q r) named h d = has_xml (binds p name) (binds q name) (binds r name)
          (take T test p) (take T test q) (take T test r) (has_all p named.2) (has_all q named.3)
          (has_all r named.4) h d
      has_all (pattern.Record fields more) named h d = has_record more (all_named fields)
          (take_fields T test fields) (fields_have fields named.2 h) d
      has_all (pattern.Both all) named h d = both_have all named h d
      has_all (pattern.First all) named h d = first_have all named h d
      has_all (pattern.Sequence r) named h d = has_items (is_gathered r) (is_plain r name)
          (ways T test r) (gathered_or_plain r name h) (all_plain r named.2) (items d)

      both_have : (all : Patterns T) → AreNamedDisjoint all → all_bind all name ≡ true
          → HasAll (take_all T test all)
      both_have NoPattern named h d = absurd (true≢false (sym h))
      both_have (APattern p all) named h d = has_both (binds p name) (all_bind all name)
          (take T test p d) (take_all T test all d) (λ so. has_all p named.1 so d)
          (λ so. both_have all named.2 so d) h

      first_have : (all : Patterns T) → AreNamedSame all → all_bind all name ≡ true
          → HasAll (take_first T test all)
      first_have NoPattern named h d = tt
      first_have (APattern p all) named h d = let so = first_binds p all named.1 h in
          has_or (take T test p d) (take_first T test all d) (has_all p named.0 so d)
          (others_have (binds p) all named.1 so d)

      others_have : (bound : Name → Bool) (all : Patterns T) → AreNamedAs bound all
          → bound name ≡ true → HasAll (take_first T test all)
      others_have bound NoPattern named h d = tt
      others_have bound (APattern p all) named h d =
          has_or (take T test p d) (take_first T test all d)
          (has_all p named.1 (named.0 name ∙ h) d) (others_have bound all named.2 h d)

      fields_have : (fields : Fields T) → AreNamedFields fields → fields_bind fields name ≡ true
          → (of : thing.Fields) → Has (take_fields T test fields of)
      fields_have NoField named h of = absurd (true≢false (sym h))
      fields_have (Present label p fields) named h of =
          has_both (binds p name) (fields_bind fields name)
          (take_present (take T test p) (at_label of label)) (take_fields T test fields of)
          (λ so. has_present (take T test p) (has_all p named.0 so) (at_label of label))
          (λ so. fields_have fields named.1 so of) h
      fields_have (Optional label type fields) named h of =
          second_has (take_optional (test type) (at_label of label)) (take_fields T test fields of)
          (fields_have fields named h of)

      all_plain : (r : Regular T) → IsNamedRegular r → is_plain r name ≡ true
          → AllPlain (ways T test r)
      all_plain pattern.Nothing named h things = absurd (true≢false (sym h))
      all_plain (pattern.Item p) named h things =
          plain_item (take T test p) (has_all p named h) things
      all_plain (pattern.Seq all) named h things = plain_in_turn all named h things
      all_plain (pattern.Alt all) named h things = plain_of_one all named h things
      all_plain (pattern.Repeat r how) named h things =
          absurd (true≢false (sym h ∙ named.0 name))
      all_plain (pattern.Capture variable r) named h things =
          all_map IsPlain IsPlain (gathers variable) (λ way is. is) (ways T test r things)
          (all_plain r named h things)

      plain_in_turn : (all : Regulars T) → AreNamedInTurn all → one_is_plain all name ≡ true
          → AllPlain (ways_in_turn T test all)
      plain_in_turn NoRegular named h things = absurd (true≢false (sym h))
      plain_in_turn (ARegular r all) named h things =
          plain_then (is_plain r name) (one_is_plain all name) (ways T test r things)
          (ways_in_turn T test all) (λ so. all_plain r named.1 so things)
          (plain_in_turn all named.2) h

      plain_of_one : (all : Regulars T) → AreNamedEither all → one_is_plain all name ≡ true
          → AllPlain (ways_of_one T test all)
      plain_of_one NoRegular named h things = absurd (true≢false (sym h))
      plain_of_one (ARegular r all) named h things = let so = first_plain r all named.1 h in
          each_both IsPlain (ways T test r things) (ways_of_one T test all things)
          (all_plain r named.0 so things) (others_plain (is_plain r) all named.1 so things)

      others_plain : (plain : Name → Bool) (all : Regulars T) → AreNamedLike plain all
          → plain name ≡ true → AllPlain (ways_of_one T test all)
      others_plain plain NoRegular named h things = tt
      others_plain plain (ARegular r all) named h things =
          each_both IsPlain (ways T test r things) (ways_of_one T test all things)
          (all_plain r named.1 (named.0 name ∙ h) things)
          (others_plain plain all named.2 h things)
