-- Of a sequence of integers, one at least, an item is given.
use Rattle.std.proofs.Common.{ℤ, Bool, List, [], ◌∷◌, sym, subst}
use Rattle.cd_model.specs.AllOf.{AllOf}
use Rattle.cd_model.specs.BuiltIns.{INT}
use Rattle.cd_model.specs.Thing.{Thing, Integer, IsElement, AreFields}
use Rattle.cd_matching.specs.Sequences.{items}
use Rattle.cd_meaning.specs.Sequences.{IsItemOf}
use Rattle.cd_meaning.specs.Sets.{Set, ◌⊆◌}
use Rattle.cd_typing.specs.Operators.{IsNumbers}
use Rattle.cd_typing.specs.Typ.{BuiltIn}
use Rattle.cd_evaluation.specs.Operations.{extreme, if_found}
use Rattle.cd_evaluation.proofs.ExtremesFound.{IsNumber, item_found, integers_found}
use Rattle.cd_safety.specs.Gives.{Gives}
use Rattle.cd_safety.proofs.BuiltInElements.{integer_here}
use Rattle.cd_safety.proofs.ExtremesGood.{one_of_each}
use Rattle.cd_safety.proofs.SequencesGood.{items_good}
use Rattle.cd_safety.proofs.SortsByParts.{elements_by_parts}

are_numbers : (all : List Thing) → AllOf IsElement all → AllOf (BuiltIn INT) all → AllOf IsNumber all
are_numbers [] sound are = tt
are_numbers (d ∷ all) sound are = (integer_here d sound.0 are.0, are_numbers all sound.1 are.1)

pub extreme_given : (result operand : Set) (d : Thing) → IsElement d → operand d → operand ⊆ IsNumbers → IsItemOf operand ⊆ result
    → (before : ℤ → ℤ → Bool) → Gives result (if_found (extreme before (items d)))
extreme_given result operand d d_is d_in are within before =
    let numbers = are d d_is d_in in
    let sound = items_good IsElement AreFields elements_by_parts d numbers.0 numbers.1 d_is in
    let found = integers_found before numbers.0 (are_numbers numbers.0 sound numbers.2) numbers.3 in
    let item = item_found before found.0 numbers.0 found.1 in
    subst (λ all. Gives result (if_found (extreme before all))) (sym numbers.1)
    (subst (λ n. Gives result (if_found n)) (sym found.1)
    (within (Integer found.0) (one_of_each IsElement (Integer found.0) numbers.0 item sound)
    (d, numbers.0, d_is, d_in, numbers.1, item)))
