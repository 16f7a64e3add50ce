-- A completed pattern takes what the pattern takes, with the same captures.
use Rattle.std.proofs.Common.{◌≡◌, Bool, ◌&&◌, List, [], ◌∷◌, ◌++◌, map, Option, refl, ap, ap₂}
use Rattle.std.proofs.Common.{◌∙◌}
use Rattle.cd_syntax.specs.Name.{Name}
use Rattle.cd_model.specs.Thing as thing
use Rattle.cd_model.specs.Thing.{Thing}
use Rattle.cd_matching.specs.Captures.{Captures, both, or_else}
use Rattle.cd_matching.specs.Pattern as pattern
use Rattle.cd_matching.specs.Pattern.{Pattern, Patterns, NoPattern, APattern, Fields, NoField}
use Rattle.cd_matching.specs.Pattern.{Present, Optional, Regular, Regulars, NoRegular, ARegular}
use Rattle.cd_matching.specs.Take.{Taking, at_label, all_named, take_pair, take_xml, take_record}
use Rattle.cd_matching.specs.Take.{take_present, take_optional, take_sequence, ways_of_item, take}
use Rattle.cd_matching.specs.Take.{take_all, take_first, take_fields, ways, ways_in_turn}
use Rattle.cd_matching.specs.Take.{ways_of_one}
use Rattle.cd_matching.specs.Ways.{Way, Ways, gathers, then_, repeated}
use Rattle.cd_kernel.specs.Inner.Completed.{choice, completed, completed_all, completed_fields}
use Rattle.cd_kernel.specs.Inner.Completed.{completed_regular, completed_regulars}
use Rattle.cd_kernel.proofs.CompletedVariables.{gathered_same, labels_same}

module _ (T : Type 0) (test : T → Thing → Bool) where
  -- an item that takes nothing has no way, as a choice of no alternatives
  choice_ways : (all : Regulars T) (things : List Thing)
      → ways T test (choice all) things ≡ ways_of_one T test all things
  choice_ways NoRegular [] = refl
  choice_ways NoRegular (d ∷ rest) = refl
  choice_ways (ARegular first rest) things = refl

  named_same : (fields : Fields T) (others : thing.Fields)
      → all_named (completed_fields fields) others ≡ all_named fields others
  named_same fields thing.NoField = refl
  named_same fields (thing.Field label d rest) =
      ap₂ (λ (a b : Bool). a && b) (labels_same fields label) (named_same fields rest)

  mutual
    pub takes_same : (p : Pattern T) (d : Thing) → take T test (completed p) d ≡ take T test p d
    takes_same (pattern.OfType type) d = refl
    takes_same (pattern.Bind variable) d = refl
    takes_same (pattern.Default variable constant) d = refl
    takes_same (pattern.Pair p q) d = ap₂ (λ (one other : Taking). take_pair one other d)
        (λ i e. takes_same p e i) (λ i e. takes_same q e i)
    takes_same (pattern.Xml p q r) d =
        ap₂ (λ (one other : Taking). take_xml one other (take T test (completed r)) d)
        (λ i e. takes_same p e i) (λ i e. takes_same q e i)
        ∙ ap (λ (last : Taking). take_xml (take T test p) (take T test q) last d)
        (λ i e. takes_same r e i)
    takes_same (pattern.Record fields more) d =
        ap₂ (λ (named : thing.Fields → Bool) (all : thing.Fields → Option (Captures Name)).
        take_record more named all d)
        (λ i others. named_same fields others i) (λ i others. fields_same fields others i)
    takes_same (pattern.Both all) d = all_same all d
    takes_same (pattern.First all) d = first_same all d
    takes_same (pattern.Sequence r) d =
        ap₂ (λ (gathered : Name → Bool) (all : Ways). take_sequence gathered all d)
        (λ i name. gathered_same r name i) (λ i things. ways_same r things i)

    all_same : (all : Patterns T) (d : Thing)
        → take_all T test (completed_all all) d ≡ take_all T test all d
    all_same NoPattern d = refl
    all_same (APattern first rest) d = ap₂ both (takes_same first d) (all_same rest d)

    first_same : (all : Patterns T) (d : Thing)
        → take_first T test (completed_all all) d ≡ take_first T test all d
    first_same NoPattern d = refl
    first_same (APattern first rest) d = ap₂ or_else (takes_same first d) (first_same rest d)

    fields_same : (fields : Fields T) (others : thing.Fields)
        → take_fields T test (completed_fields fields) others ≡ take_fields T test fields others
    fields_same NoField others = refl
    fields_same (Present label p rest) others = ap₂ both
        (ap (λ (one : Taking). take_present one (at_label others label))
        (λ i e. takes_same p e i)) (fields_same rest others)
    fields_same (Optional label type rest) others =
        ap (both (take_optional (test type) (at_label others label))) (fields_same rest others)

    ways_same : (r : Regular T) (things : List Thing)
        → ways T test (completed_regular r) things ≡ ways T test r things
    ways_same pattern.Nothing things = refl
    ways_same (pattern.Item p) things =
        ap (λ (one : Taking). ways_of_item one things) (λ i e. takes_same p e i)
    ways_same (pattern.Seq all) things = in_turn_same all things
    ways_same (pattern.Alt all) things =
        choice_ways (completed_regulars all) things ∙ one_same all things
    ways_same (pattern.Repeat r post) things =
        ap (λ (one : Ways). repeated post one things) (λ i rest. ways_same r rest i)
    ways_same (pattern.Capture variable r) things =
        ap (λ (all : List Way). map (gathers variable) all) (ways_same r things)

    in_turn_same : (all : Regulars T) (things : List Thing)
        → ways_in_turn T test (completed_regulars all) things ≡ ways_in_turn T test all things
    in_turn_same NoRegular things = refl
    in_turn_same (ARegular first rest) things =
        ap₂ (λ (one : List Way) (next : Ways). then_ one next) (ways_same first things)
        (λ i others. in_turn_same rest others i)

    one_same : (all : Regulars T) (things : List Thing)
        → ways_of_one T test (completed_regulars all) things ≡ ways_of_one T test all things
    one_same NoRegular things = refl
    one_same (ARegular first rest) things =
        ap₂ (λ (one other : List Way). one ++ other) (ways_same first things)
        (one_same rest things)
