-- Elements in the place of values, in lists and in outcomes.
use Rattle.std.specs.Prelude.{List, [], ◌∷◌, Option, Some, None}
use Rattle.cd_model.specs.Formula.{Graph}
use Rattle.cd_model.specs.Interfaces.{Interfaces}
use Rattle.cd_model.specs.Thing.{Thing}
use Rattle.cd_evaluation.specs.Runs.{Outcome, Done, Raised, Overflow, Spent, Stuck}
use Rattle.cd_safety.specs.StandsIn.{StandsIn}

module _ (graph : Graph) (interfaces : Interfaces) where
  abbrev pub AllStandIn : (values elements : List Thing) → Type 0
  AllStandIn [] [] = Unit {0}
  AllStandIn (v ∷ values) (e ∷ elements) =
      StandsIn graph interfaces v e × AllStandIn values elements
  AllStandIn _ _ = ⊥

  -- there is none of both, or one of each
  abbrev pub OneStandsIn : (value element : Option Thing) → Type 0
  OneStandsIn None None = Unit {0}
  OneStandsIn (Some v) (Some e) = StandsIn graph interfaces v e
  OneStandsIn _ _ = ⊥

  abbrev pub ItemsStandIn : (values elements : Option (List Thing)) → Type 0
  ItemsStandIn None None = Unit {0}
  ItemsStandIn (Some values) (Some elements) = AllStandIn values elements
  ItemsStandIn _ _ = ⊥

  abbrev pub OutcomeStandsIn : (of_values of_elements : Outcome) → Type 0
  OutcomeStandsIn (Done v) (Done e) = StandsIn graph interfaces v e
  OutcomeStandsIn (Raised v) (Raised e) = StandsIn graph interfaces v e
  OutcomeStandsIn Overflow Overflow = Unit {0}
  OutcomeStandsIn Spent Spent = Unit {0}
  OutcomeStandsIn Stuck Stuck = Unit {0}
  OutcomeStandsIn _ _ = ⊥
