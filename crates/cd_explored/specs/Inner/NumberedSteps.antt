-- Places under numbers, to which steps add those that they lead to.
use Rattle.std.specs.Prelude.{◌≡◌, ◌⊎◌, ◌++◌, List}
use Rattle.cd_model.specs.AllOf.{AnyOf}
use Rattle.cd_filter.specs.Table.{Place, Step, Leads, Gathers}
use Rattle.cd_explored.specs.Inner.PlainSteps.{AreSteps}
use Rattle.cd_explored.specs.declared.step.Step.{Step as CodeStep}

-- the place is among these
abbrev pub IsNumbered : List Place → Place → Type 0
IsNumbered places place = AnyOf (λ other. other ≡ place) places

-- the places are there, and others may come after them
abbrev pub GrowTo : List Place → List Place → Type 0
GrowTo old new = (more : List Place) × (new ≡ old ++ more)

-- a step leads to a place
abbrev pub LeadsTo : Place → Step → Type 0
LeadsTo place (Leads but next) = next ≡ place
LeadsTo place (Gathers variable item next) = next ≡ place
LeadsTo place step = ⊥

-- the places have grown by those that the steps lead to, and the steps of the code are these
pub record AreNumbered (old new : List Place) (steps : List CodeStep) (all : List Step) : Type 0
  where
    pub grown : GrowTo old new
    pub numbered : AreSteps new steps all
    pub led : (place : Place) → IsNumbered new place
        → IsNumbered old place ⊎ AnyOf (LeadsTo place) all
