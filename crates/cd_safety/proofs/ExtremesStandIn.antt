-- Among values the same integer is found as among the elements that stand in for them.
use Rattle.std.proofs.Common.{◌≡◌, ℤ, Bool, List, [], ◌∷◌, Option, Some, None, refl, subst, if◌then◌else◌}
use Rattle.cd_model.specs.Formula.{Graph}
use Rattle.cd_model.specs.Interfaces.{Interfaces}
use Rattle.cd_model.specs.Thing.{Thing}
use Rattle.cd_evaluation.specs.Operations.{first_among, extreme, if_found}
use Rattle.cd_safety.specs.StandsIn as stand
use Rattle.cd_safety.specs.StandsIn.{StandsIn}
use Rattle.cd_safety.specs.OutcomesStandIn.{AllStandIn, ItemsStandIn, OutcomeStandsIn}

module _ (graph : Graph) (interfaces : Interfaces) (before : ℤ → ℤ → Bool) where
  -- the first of the things is an integer, or none is found
  one_same : (n : ℤ) (v e : Thing) (values elements : List Thing) → StandsIn graph interfaces v e
      → ((m : ℤ) → first_among before m values ≡ first_among before m elements)
      → first_among before n (v ∷ values) ≡ first_among before n (e ∷ elements)
  one_same n _ _ values elements (stand.integer m) same = same (if before m n then m else n)
  one_same n _ _ values elements (stand.character c) same = refl
  one_same n _ _ values elements (stand.atom name) same = refl
  one_same n _ _ values elements (stand.pair v w d e first second) same = refl
  one_same n _ _ values elements (stand.xml tag attributes content d e last one other more) same = refl
  one_same n _ _ values elements (stand.of_fields fields others stands) same = refl
  one_same n _ _ values elements (stand.closure function environment pairs agrees) same = refl

  first_same : (n : ℤ) (values elements : List Thing) → AllStandIn graph interfaces values elements
      → first_among before n values ≡ first_among before n elements
  first_same n [] [] are = refl
  first_same n [] (e ∷ elements) are = absurd are
  first_same n (v ∷ values) [] are = absurd are
  first_same n (v ∷ values) (e ∷ elements) are = one_same n v e values elements are.0 (λ m. first_same m values elements are.1)

  of_first_same : (v e : Thing) (values elements : List Thing) → StandsIn graph interfaces v e
      → AllStandIn graph interfaces values elements
      → extreme before (Some (v ∷ values)) ≡ extreme before (Some (e ∷ elements))
  of_first_same _ _ values elements (stand.integer n) are = first_same n values elements are
  of_first_same _ _ values elements (stand.character c) are = refl
  of_first_same _ _ values elements (stand.atom name) are = refl
  of_first_same _ _ values elements (stand.pair v w d e first second) are = refl
  of_first_same _ _ values elements (stand.xml tag attributes content d e last one other more) are = refl
  of_first_same _ _ values elements (stand.of_fields fields others stands) are = refl
  of_first_same _ _ values elements (stand.closure function environment pairs agrees) are = refl

  extreme_same : (values elements : Option (List Thing)) → ItemsStandIn graph interfaces values elements
      → extreme before values ≡ extreme before elements
  extreme_same None None are = refl
  extreme_same None (Some elements) are = absurd are
  extreme_same (Some values) None are = absurd are
  extreme_same (Some []) (Some []) are = refl
  extreme_same (Some []) (Some (e ∷ elements)) are = absurd are
  extreme_same (Some (v ∷ values)) (Some []) are = absurd are
  extreme_same (Some (v ∷ values)) (Some (e ∷ elements)) are = of_first_same v e values elements are.0 are.1

  found_stands : (found : Option ℤ) → OutcomeStandsIn graph interfaces (if_found found) (if_found found)
  found_stands None = tt
  found_stands (Some n) = stand.integer n

  pub extreme_stands : (values elements : Option (List Thing)) → ItemsStandIn graph interfaces values elements
      → OutcomeStandsIn graph interfaces (if_found (extreme before values)) (if_found (extreme before elements))
  extreme_stands values elements are =
      subst (λ found. OutcomeStandsIn graph interfaces (if_found (extreme before values)) (if_found found)) (extreme_same values elements are)
      (found_stands (extreme before values))
