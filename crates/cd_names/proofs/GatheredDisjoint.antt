-- In an expression that is not at fault a variable gathers items once at a place, and no plain
-- variable gathers.
use Rattle.std.proofs.Common.{◌≡◌, Bool, true, false, List, ◌∷◌, ◌++◌, ◌⊎◌, inl, inr}
use Rattle.std.proofs.Common.{refl, sym, ap, ◌∙◌, bytes_eq}
use Rattle.std.proofs.lemmas.Bool.{true≢false, or_cases, or_parts, or_from, or_left, or_right}
use Rattle.std.proofs.lemmas.Bool.{false_from_ne_true}
use Rattle.std.specs.List.{list_any}
use Rattle.cd_syntax.specs.Name.{Name}
use Rattle.cd_syntax.specs.TypeTree.{Regular, regular, RegularKind, Nothing, Item, Seq, Alt, Repeat}
use Rattle.cd_syntax.specs.TypeTree.{Capture, Regulars, NoRegular, ARegular}
use Rattle.cd_syntax.specs.declared.tokens.Span.{Span}
use Rattle.cd_model.specs.AllOf.{AnyOf}
use Rattle.cd_model.specs.Scope.{Scope}
use Rattle.cd_matching.specs.Naming.{GathersDisjoint, GatherDisjoint}
use Rattle.cd_matching.specs.WrittenPattern.{regular_pattern, regular_kind_pattern}
use Rattle.cd_matching.specs.WrittenPattern.{regular_patterns}
use Rattle.cd_variables.specs.Occurrences.{Occurrence, has, plain, plain_in, plain_of_all, gathered}
use Rattle.cd_variables.specs.Occurrences.{gathered_in, gathered_of_all}
use Rattle.cd_variables.specs.VariableFaults.{IsAmong, IsOneIn, all_regulars, StandsAgainInTurn}
use Rattle.cd_variables.specs.VariableFaults.{twice, repeats, differs, regular_begins, plain_differ}
use Rattle.cd_variables.specs.VariableFaults.{stands_again_in_turn, stands_inside, repeated}
use Rattle.cd_names.proofs.OccurrenceNames.{has_both, is_name, name_is, not_among}
use Rattle.cd_names.proofs.OccurrenceNames.{same_names, among_both}
use Rattle.cd_names.proofs.SoundParts.{IsSoundRegular, AreSoundRegulars}
use Rattle.cd_names.proofs.SoundParts.{regulars_are_sound}

-- a name of two lists one after the other
has_either : (ones others : List Occurrence) (name : Name) → has (ones ++ others) name ≡ true
    → (has ones name ≡ true) ⊎ (has others name ≡ true)
has_either ones others name h =
    or_cases (has ones name) (has others name) (sym (has_both ones others name) ∙ h)

has_neither : (ones others : List Occurrence) (name : Name) → has (ones ++ others) name ≡ false
    → (has ones name ≡ false) × (has others name ≡ false)
has_neither ones others name h =
    or_parts (has ones name) (has others name) (sym (has_both ones others name) ∙ h)

neither_has : (ones others : List Occurrence) (name : Name) → has ones name ≡ false
    → has others name ≡ false → has (ones ++ others) name ≡ false
neither_has ones others name one other =
    has_both ones others name ∙ or_from (has ones name) (has others name) one other

-- what stands in a list of parts stands in one of them
module _ (o : Occurrence) where
  plain_in_one : (all : Regulars) → IsAmong o (plain_of_all all)
      → AnyOf (λ r. IsAmong o (plain r)) (all_regulars all)
  plain_in_one NoRegular h = absurd h
  plain_in_one (ARegular first rest) h = elim (among_both (plain first) (plain_of_all rest) o h) [
    | inl here ↦ inl here
    | inr later ↦ inr (plain_in_one rest later)
  ]

  gathered_in_one : (all : Regulars) → IsAmong o (gathered_of_all all)
      → AnyOf (λ r. IsAmong o (gathered r)) (all_regulars all)
  gathered_in_one NoRegular h = absurd h
  gathered_in_one (ARegular first rest) h =
      elim (among_both (gathered first) (gathered_of_all rest) o h) [
        | inl here ↦ inl here
        | inr later ↦ inr (gathered_in_one rest later)
      ]

-- parts that are taken in turn
abbrev pub AreOnce : List Regular → Type 0
AreOnce all = (o : Occurrence) → StandsAgainInTurn o all → ⊥

pub sequence_once : (span : Span) (all : Regulars) → IsSoundRegular (regular span (Seq all))
    → AreOnce (all_regulars all)
sequence_once span all sound o again = sound (twice o) (stands_again_in_turn span all o again)

module _ (first : Regular) (rest : Regulars) (once : AreOnce (all_regulars (ARegular first rest)))
  where
    pub later_once : AreOnce (all_regulars rest)
    later_once o again = once o (inr (inr again))

    pub plain_later : (name : Name) → has (plain first ++ gathered first) name ≡ true
        → has (plain_of_all rest) name ≡ false
    plain_later name here = not_among (plain_of_all rest) name (λ o among is. once o (inl (
      ap
          (has (plain first ++ gathered first)) is ∙ here,
      plain_in_one o rest among,
    )))

    gathered_later : (name : Name) → has (plain first) name ≡ true
        → has (gathered_of_all rest) name ≡ false
    gathered_later name here = not_among (gathered_of_all rest) name (λ o among is. once o (inr
        (inl (ap (has (plain first)) is ∙ here, gathered_in_one o rest among))))

-- the plain variables of alternatives
pub alternative_same : (span : Span) (first : Regular) (rest : Regulars)
    → IsSoundRegular (regular span (Alt (ARegular first rest))) → (other : Regular)
    → IsOneIn other (all_regulars rest) → (name : Name)
    → has (plain first) name ≡ has (plain other) name
alternative_same span first rest sound other among = same_names (plain first) (plain other)
    (λ differ. sound (differs (regular_begins other))
    (plain_differ span first other rest among differ))

-- what stands inside of what a variable gathers
module _ (span : Span) (variable : Name) (r : Regular)
    (sound : IsSoundRegular (regular span (Capture variable r))) (name : Name)
    (is : variable ≡ name) where
  not_inside : has (plain r ++ gathered r) name ≡ false
  not_inside = not_among (plain r ++ gathered r) name (λ o among same.
      sound (twice o) (stands_inside span variable r o among (same ∙ sym is)))

  not_plain_inside : has (plain r) name ≡ false
  not_plain_inside = (has_neither (plain r) (gathered r) name not_inside).0

  not_gathered_inside : has (gathered r) name ≡ false
  not_gathered_inside = (has_neither (plain r) (gathered r) name not_inside).1

pub not_repeated : (span : Span) (r : Regular) (post : _)
    → IsSoundRegular (regular span (Repeat r post)) → (name : Name) → has (plain r) name ≡ false
not_repeated span r post sound name = not_among (plain r) name (λ o among is.
    sound (repeats o) (repeated span r post o among))

module _ (name : Name) where
  none_plain : (all : Regulars)
      → ((r : Regular) → IsOneIn r (all_regulars all) → has (plain r) name ≡ false)
      → has (plain_of_all all) name ≡ false
  none_plain NoRegular none = refl
  none_plain (ARegular first rest) none = neither_has (plain first) (plain_of_all rest) name
      (none first (inl refl)) (none_plain rest (λ r among. none r (inr among)))

  -- alternatives where one that gathers under the name has it as no plain one
  alike_not_plain : (b : Bool) → b ≡ false → (all : Regulars)
      → ((r : Regular) → IsOneIn r (all_regulars all) → b ≡ has (plain r) name)
      → has (plain_of_all all) name ≡ false
  alike_not_plain b is all same = none_plain all (λ r among. sym (same r among) ∙ is)

  mutual
    pub not_plain : (r : Regular) → IsSoundRegular r → has (gathered r) name ≡ true
        → has (plain r) name ≡ false
    not_plain (regular span kind) sound h = kind_not_plain span kind sound h

    kind_not_plain : (span : Span) (kind : RegularKind) → IsSoundRegular (regular span kind)
        → has (gathered_in span.from kind) name ≡ true → has (plain_in kind) name ≡ false
    kind_not_plain span Nothing sound h = refl
    kind_not_plain span (Item t) sound h = absurd (true≢false (sym h))
    kind_not_plain span (Seq all) sound h =
        turn_not_plain all (regulars_are_sound span (Seq all) sound)
        (sequence_once span all sound) h
    kind_not_plain span (Alt NoRegular) sound h = refl
    kind_not_plain span (Alt (ARegular first rest)) sound h =
        by_same (alternative_same span first rest sound)
        (one_not_plain (has (plain first) name) (ARegular first rest)
        (regulars_are_sound span (Alt (ARegular first rest)) sound))
      where
        by_same : ((other : Regular) → IsOneIn other (all_regulars rest) → (name : Name)
            → has (plain first) name ≡ has (plain other) name)
            → (((r : Regular) → IsOneIn r (all_regulars (ARegular first rest))
            → has (plain first) name ≡ has (plain r) name)
            → has (gathered_of_all (ARegular first rest)) name ≡ true
            → has (plain first) name ≡ false)
            → has (plain_of_all (ARegular first rest)) name ≡ false
        by_same same on = alike_not_plain (has (plain first) name) (on (each same) h)
            (ARegular first rest) (each same)
          where
            each : ((other : Regular) → IsOneIn other (all_regulars rest) → (name : Name)
                → has (plain first) name ≡ has (plain other) name)
                → (r : Regular) → IsOneIn r (all_regulars (ARegular first rest))
                → has (plain first) name ≡ has (plain r) name
            each same r (inl is) = ap (λ (r : Regular). has (plain r) name) is
            each same r (inr among) = same r among name
    kind_not_plain span (Repeat r post) sound h = not_repeated span r post sound name
    kind_not_plain span (Capture variable r) sound h =
        by_side (or_cases (bytes_eq variable name) (has (gathered r) name) h)
        (not_plain r (regulars_are_sound span (Capture variable r) sound r (inl refl)))
      where
        by_side : (bytes_eq variable name ≡ true) ⊎ (has (gathered r) name ≡ true)
            → (has (gathered r) name ≡ true → has (plain r) name ≡ false)
            → has (plain r) name ≡ false
        by_side (inl here) on =
            not_plain_inside span variable r sound name (name_is variable name here)
        by_side (inr inside) on = on inside

    turn_not_plain : (all : Regulars) → AreSoundRegulars (all_regulars all)
        → AreOnce (all_regulars all) → has (gathered_of_all all) name ≡ true
        → has (plain_of_all all) name ≡ false
    turn_not_plain NoRegular sound once h = refl
    turn_not_plain (ARegular first rest) sound once h =
        by_side (has_either (gathered first) (gathered_of_all rest) name h)
        (not_plain first (sound first (inl refl)))
        (turn_not_plain rest (λ r among. sound r (inr among)) (later_once first rest once))
      where
        by_side : (has (gathered first) name ≡ true) ⊎ (has (gathered_of_all rest) name ≡ true)
            → (has (gathered first) name ≡ true → has (plain first) name ≡ false)
            → (has (gathered_of_all rest) name ≡ true → has (plain_of_all rest) name ≡ false)
            → has (plain first ++ plain_of_all rest) name ≡ false
        by_side (inl here) one other = neither_has (plain first) (plain_of_all rest) name (one here)
            (plain_later first rest once name (has_both (plain first) (gathered first) name
            ∙ or_right (has (plain first) name) (has (gathered first) name) here))
        by_side (inr later) one other = neither_has (plain first) (plain_of_all rest) name
            (false_from_ne_true (has (plain first) name) (λ here.
            true≢false (sym later ∙ gathered_later first rest once name here))) (other later)

    one_not_plain : (b : Bool) (all : Regulars) → AreSoundRegulars (all_regulars all)
        → ((r : Regular) → IsOneIn r (all_regulars all) → b ≡ has (plain r) name)
        → has (gathered_of_all all) name ≡ true → b ≡ false
    one_not_plain b NoRegular sound same h = absurd (true≢false (sym h))
    one_not_plain b (ARegular first rest) sound same h =
        by_side (has_either (gathered first) (gathered_of_all rest) name h)
        (not_plain first (sound first (inl refl)))
        (one_not_plain b rest (λ r among. sound r (inr among)) (λ r among. same r (inr among)))
      where
        by_side : (has (gathered first) name ≡ true) ⊎ (has (gathered_of_all rest) name ≡ true)
            → (has (gathered first) name ≡ true → has (plain first) name ≡ false)
            → (has (gathered_of_all rest) name ≡ true → b ≡ false) → b ≡ false
        by_side (inl here) one other = same first (inl refl) ∙ one here
        by_side (inr later) one other = other later

-- none of these names gathers in it
abbrev NoneGather : List Name → List Occurrence → Type 0
NoneGather around all = (name : Name) → list_any (bytes_eq name) around ≡ true
    → has all name ≡ false

module _ (scope : Scope) where
  mutual
    pub gathers_disjoint : (r : Regular) (around : List Name) → IsSoundRegular r
        → NoneGather around (gathered r) → GathersDisjoint around (regular_pattern scope r)
    gathers_disjoint (regular span kind) around sound none = kind_disjoint span kind around sound none

    kind_disjoint : (span : Span) (kind : RegularKind) (around : List Name)
        → IsSoundRegular (regular span kind) → NoneGather around (gathered_in span.from kind)
        → GathersDisjoint around (regular_kind_pattern scope kind)
    kind_disjoint span Nothing around sound none = tt
    kind_disjoint span (Item t) around sound none = tt
    kind_disjoint span (Seq all) around sound none =
        all_disjoint all around (regulars_are_sound span (Seq all) sound) none
    kind_disjoint span (Alt all) around sound none =
        all_disjoint all around (regulars_are_sound span (Alt all) sound) none
    kind_disjoint span (Repeat r post) around sound none = gathers_disjoint r around
        (regulars_are_sound span (Repeat r post) sound r (inl refl)) none
    kind_disjoint span (Capture variable r) around sound none = (
      false_from_ne_true (list_any (bytes_eq variable) around) (λ h. true≢false (sym (or_left
          (bytes_eq variable variable) (has (gathered r) variable) (is_name variable))
          ∙ none variable h)),
      gathers_disjoint r (variable ∷ around)
          (regulars_are_sound span (Capture variable r) sound r (inl refl))
          (λ name h. by_side name (or_cases (bytes_eq name variable) (list_any (bytes_eq name)
          around) h)),
    )
      where
        by_side : (name : Name)
            → (bytes_eq name variable ≡ true) ⊎ (list_any (bytes_eq name) around ≡ true)
            → has (gathered r) name ≡ false
        by_side name (inl same) =
            not_gathered_inside span variable r sound name (sym (name_is name variable same))
        by_side name (inr further) =
            (or_parts (bytes_eq variable name) (has (gathered r) name) (none name further)).1

    all_disjoint : (all : Regulars) (around : List Name) → AreSoundRegulars (all_regulars all)
        → NoneGather around (gathered_of_all all)
        → GatherDisjoint around (regular_patterns scope all)
    all_disjoint NoRegular around sound none = tt
    all_disjoint (ARegular first rest) around sound none = (
      gathers_disjoint first around (sound first (inl refl)) (λ name h. (has_neither (gathered first)
          (gathered_of_all rest) name (none name h)).0),
      all_disjoint rest around (λ r among. sound r (inr among)) (λ name h. (has_neither
          (gathered first) (gathered_of_all rest) name (none name h)).1),
    )
