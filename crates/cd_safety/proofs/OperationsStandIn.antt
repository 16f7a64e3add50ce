-- Operators, words and other forms do with elements that stand in for values what they do with the values.
use Rattle.std.proofs.Common.{◌≡◌, ℕ, zero, suc, ℤ, pos, negsuc, ◌+ℤ◌, ◌-ℤ◌, ◌*ℤ◌, int_le, int_lt, int_div, int_rem, Bool, true, false, not, List, Option, Some, None, refl, codes, if◌then◌else◌}
use Rattle.std.specs.Fmt.{signed_decimal}
use Rattle.cd_syntax.specs.Name.{Name}
use Rattle.cd_model.specs.Formula.{Graph}
use Rattle.cd_model.specs.Interfaces.{Interfaces}
use Rattle.cd_model.specs.Thing.{Thing, Integer, Atom, Record}
use Rattle.cd_rules.specs.InRow.{thing_at}
use Rattle.cd_matching.specs.Sequences.{items}
use Rattle.cd_program.specs.declared.operator.Op.{Op}
use Rattle.cd_program.specs.declared.operator.Op.TheVariants as op
use Rattle.cd_program.specs.declared.operator.BuiltIn.{BuiltIn as Word}
use Rattle.cd_program.specs.declared.operator.BuiltIn.TheVariants as word
use Rattle.cd_typing.specs.Operators.{truth}
use Rattle.cd_evaluation.specs.Runs.{Outcome, Done, Overflow, found}
use Rattle.cd_evaluation.specs.Integers.{is_integer, computed, divided, on_integers, spelled}
use Rattle.cd_evaluation.specs.Lists.{characters_of}
use Rattle.cd_evaluation.specs.RecordFields.{merged, without}
use Rattle.cd_evaluation.specs.Operations.{truth_of, plus, operate, inverted, flattened, if_spelled, int_of, string_of, word_outcome, dropped, selected, xml}
use Rattle.cd_safety.specs.StandsIn as stand
use Rattle.cd_safety.specs.StandsIn.{StandsIn}
use Rattle.cd_safety.specs.OutcomesStandIn.{OneStandsIn, ItemsStandIn, OutcomeStandsIn}
use Rattle.cd_safety.proofs.ExtremesStandIn.{extreme_stands}
use Rattle.cd_safety.proofs.RecordsStandIn.{merged_stand, without_stands, at_stands}
use Rattle.cd_safety.proofs.SequencesStandIn.{text_stands, items_stand, joined_stands, all_joined_stands, characters_same}

-- an operator that tests no equality
abbrev pub TestsNoEquality : Op → Type 0
TestsNoEquality op.Equal = ⊥
TestsNoEquality op.Unequal = ⊥
TestsNoEquality is = Unit {0}

module _ (graph : Graph) (interfaces : Interfaces) where
  abbrev Stands : (v e : Thing) → Type 0
  Stands v e = StandsIn graph interfaces v e

  abbrev BothEnd : (of_values of_elements : Outcome) → Type 0
  BothEnd of_values of_elements = OutcomeStandsIn graph interfaces of_values of_elements

  pub truth_stands : (b : Bool) → Stands (truth b) (truth b)
  truth_stands true = stand.atom (codes "true")
  truth_stands false = stand.atom (codes "false")

  computed_stands : (n : ℤ) → BothEnd (computed n) (computed n)
  computed_stands n = by_test (is_integer n)
    where
      by_test : (fits : Bool) → BothEnd (if fits then Done (Integer n) else Overflow) (if fits then Done (Integer n) else Overflow)
      by_test true = stand.integer n
      by_test false = tt

  divided_stands : (compute : ℤ → ℤ → ℤ) (n m : ℤ) → BothEnd (divided compute n m) (divided compute n m)
  divided_stands compute n (pos zero) = tt
  divided_stands compute n (pos (suc m)) = computed_stands (compute n (pos (suc m)))
  divided_stands compute n (negsuc m) = computed_stands (compute n (negsuc m))

  on_integers_stand : (next : ℤ → ℤ → Outcome) → ((n m : ℤ) → BothEnd (next n m) (next n m)) → (v w d e : Thing) → Stands v d → Stands w e
      → BothEnd (on_integers next v w) (on_integers next d e)
  on_integers_stand next stands _ _ _ _ (stand.integer n) (stand.integer m) = stands n m
  on_integers_stand next stands _ _ _ _ _ _ = tt

  plus_stands : (v w d e : Thing) → Stands v d → Stands w e → BothEnd (plus v w) (plus d e)
  plus_stands _ _ _ _ (stand.integer n) (stand.integer m) = computed_stands (n +ℤ m)
  plus_stands _ _ _ _ (stand.of_fields fields others first) (stand.of_fields second those other) =
      stand.of_fields (merged fields second) (merged others those) (merged_stand graph interfaces fields others second those first other)
  plus_stands _ _ _ _ _ _ = tt

  pub operate_stands : (is : Op) → TestsNoEquality is → (v w d e : Thing) → Stands v d → Stands w e
      → BothEnd (operate is v w) (operate is d e)
  operate_stands op.Or other v w d e first second = tt
  operate_stands op.And other v w d e first second = tt
  operate_stands op.Equal other v w d e first second = absurd other
  operate_stands op.Unequal other v w d e first second = absurd other
  operate_stands op.Less other v w d e first second = on_integers_stand _ (λ n m. truth_stands (int_lt n m)) v w d e first second
  operate_stands op.AtMost other v w d e first second = on_integers_stand _ (λ n m. truth_stands (int_le n m)) v w d e first second
  operate_stands op.Greater other v w d e first second = on_integers_stand _ (λ n m. truth_stands (int_lt m n)) v w d e first second
  operate_stands op.AtLeast other v w d e first second = on_integers_stand _ (λ n m. truth_stands (int_le m n)) v w d e first second
  operate_stands op.Concat other v w d e first second = joined_stands graph interfaces v w d e first second
  operate_stands op.Plus other v w d e first second = plus_stands v w d e first second
  operate_stands op.Minus other v w d e first second = on_integers_stand _ (λ n m. computed_stands (n -ℤ m)) v w d e first second
  operate_stands op.Times other v w d e first second = on_integers_stand _ (λ n m. computed_stands (n *ℤ m)) v w d e first second
  operate_stands op.Div other v w d e first second = on_integers_stand _ (divided_stands int_div) v w d e first second
  operate_stands op.Mod other v w d e first second = on_integers_stand _ (divided_stands int_rem) v w d e first second

  pub truth_same : (v e : Thing) → Stands v e → truth_of v ≡ truth_of e
  truth_same _ _ (stand.integer n) = refl
  truth_same _ _ (stand.character c) = refl
  truth_same _ _ (stand.atom name) = refl
  truth_same _ _ (stand.pair v w d e first second) = refl
  truth_same _ _ (stand.xml tag attributes content d e last one other more) = refl
  truth_same _ _ (stand.of_fields fields others stands) = refl
  truth_same _ _ (stand.closure function environment pairs agrees) = refl

  inverted_stands : (b : Option Bool) → BothEnd (inverted b) (inverted b)
  inverted_stands None = tt
  inverted_stands (Some b) = truth_stands (not b)

  flattened_stands : (values elements : Option (List Thing)) → ItemsStandIn graph interfaces values elements
      → BothEnd (flattened values) (flattened elements)
  flattened_stands None None are = tt
  flattened_stands None (Some elements) are = absurd are
  flattened_stands (Some values) None are = absurd are
  flattened_stands (Some values) (Some elements) are = all_joined_stands graph interfaces values elements are

  int_of_stands : (text : Option (List ℕ)) → BothEnd (int_of text) (int_of text)
  int_of_stands None = tt
  int_of_stands (Some text) = by_test (spelled text)
    where
      by_test : (n : Option ℤ) → BothEnd (if_spelled n) (if_spelled n)
      by_test None = stand.atom (codes "Invalid_int")
      by_test (Some n) = stand.integer n

  string_of_stands : (v e : Thing) → Stands v e → BothEnd (string_of v) (string_of e)
  string_of_stands _ _ (stand.integer n) = text_stands graph interfaces (signed_decimal n)
  string_of_stands _ _ _ = tt

  pub word_stands : (is : Word) (v e : Thing) → Stands v e → BothEnd (word_outcome is v) (word_outcome is e)
  word_stands word.Not v e stands = rw (truth_same v e stands) (inverted_stands (truth_of e))
  word_stands word.Flatten v e stands = flattened_stands (items v) (items e) (items_stand graph interfaces v e stands)
  word_stands word.IntOf v e stands = rw (characters_same graph interfaces v e stands) (int_of_stands (characters_of e))
  word_stands word.StringOf v e stands = string_of_stands v e stands
  word_stands word.MinOf v e stands =
      extreme_stands graph interfaces (λ n m. int_lt n m) (items v) (items e) (items_stand graph interfaces v e stands)
  word_stands word.MaxOf v e stands =
      extreme_stands graph interfaces (λ n m. int_lt m n) (items v) (items e) (items_stand graph interfaces v e stands)
  word_stands word.Raise v e stands = stands

  pub dropped_stands : (label : Name) (v e : Thing) → Stands v e → BothEnd (dropped label v) (dropped label e)
  dropped_stands label _ _ (stand.of_fields fields others stands) =
      stand.of_fields (without label fields) (without label others) (without_stands graph interfaces label fields others stands)
  dropped_stands label _ _ _ = tt

  found_stands : (v e : Option Thing) → OneStandsIn graph interfaces v e → BothEnd (found v) (found e)
  found_stands None None stands = tt
  found_stands None (Some e) stands = absurd stands
  found_stands (Some v) None stands = absurd stands
  found_stands (Some v) (Some e) stands = stands

  pub selected_stands : (label : Name) (v e : Thing) → Stands v e → BothEnd (selected label v) (selected label e)
  selected_stands label _ _ (stand.of_fields fields others stands) =
      found_stands (thing_at fields label) (thing_at others label) (at_stands graph interfaces fields others label stands)
  selected_stands label _ _ _ = tt

  pub xml_stands : (tag attributes content d e last : Thing) → Stands tag d → Stands attributes e → Stands content last
      → BothEnd (xml tag attributes content) (xml d e last)
  xml_stands _ _ content _ _ last (stand.atom name) (stand.of_fields fields others stands) more =
      stand.xml (Atom name) (Record fields) content (Atom name) (Record others) last
      (stand.atom name) (stand.of_fields fields others stands) more
  xml_stands _ _ content _ _ last (stand.atom name) _ more = tt
  xml_stands _ _ content _ _ last _ _ more = tt
