-- What is found among the items of a sequence is of their sort.
use Rattle.std.proofs.Common.{◌≡◌, ℤ, Bool, List, Option, Some, None, refl, subst}
use Rattle.cd_model.specs.AllOf.{AllOf, AnyOf}
use Rattle.cd_model.specs.Thing.{Thing, Fields, Integer}
use Rattle.cd_model.proofs.Ones.{one_with_each, one_leads}
use Rattle.cd_evaluation.specs.Operations.{extreme, if_found}
use Rattle.cd_evaluation.proofs.ExtremesFound.{item_found}
use Rattle.cd_safety.specs.ByParts.{IsByParts, OutcomeOf}
use Rattle.cd_safety.proofs.SequencesGood.{ItemsOf}

-- what is among things that all have a fact has it
pub one_of_each : (fact : Thing → Type 0) (e : Thing) (all : List Thing) → AnyOf (λ one. one ≡ e) all → AllOf fact all → fact e
one_of_each fact e all among each =
    one_leads (λ one. (one ≡ e) × fact one) (λ one both. subst fact both.0 both.1) all (one_with_each (λ one. one ≡ e) fact all among each)

module _ (Of : Thing → Type 0) (OfFields : Fields → Type 0) (by_parts : IsByParts Of OfFields) where
  pub extreme_good : (before : ℤ → ℤ → Bool) (all : Option (List Thing)) → ItemsOf Of OfFields by_parts all
      → OutcomeOf Of (if_found (extreme before all))
  extreme_good before None are = tt
  extreme_good before (Some all) are = by_found (extreme before (Some all)) refl
    where
      by_found : (found : Option ℤ) → extreme before (Some all) ≡ found → OutcomeOf Of (if_found found)
      by_found None none = tt
      by_found (Some n) some = one_of_each Of (Integer n) all (item_found before n all some) are
