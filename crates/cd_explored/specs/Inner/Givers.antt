-- The steps that give a variable something by themselves.
use Rattle.std.specs.Prelude.{ℕ, Bool, false, eqb, List, [], ◌∷◌, ◌++◌, if◌then◌else◌}
use Rattle.std.specs.List.{slice_get}
use Rattle.std.specs.Option.{unwrap_or}
use Rattle.cd_explored.specs.declared.givers.Giver.{Giver}
use Rattle.cd_explored.specs.declared.step.Step.{Step}
use Rattle.cd_explored.specs.declared.step.Step.TheVariants.{Takes, Puts, Gathers}
use Rattle.cd_explored.specs.Inner.Reached.{Rows}

abbrev pub gives : (variable : ℕ) → Step → Bool
gives variable (Takes other) = eqb other variable
gives variable (Puts other constant) = eqb other variable
gives variable (Gathers other item next) = eqb other variable
gives variable step = false

abbrev pub givers_in : (variable : ℕ) → (number : ℕ) → List Step → List Giver
givers_in variable number [] = []
givers_in variable number (step ∷ row) = if gives variable step
    then record { number = number; step = step } ∷ givers_in variable number row
    else givers_in variable number row

-- at the places with these numbers
abbrev pub row_of : Rows → ℕ → List Step
row_of rows number = unwrap_or (slice_get rows number) []

abbrev pub givers_of : (variable : ℕ) → Rows → (numbers : List ℕ) → List Giver
givers_of variable rows [] = []
givers_of variable rows (number ∷ numbers) =
    givers_in variable number (row_of rows number) ++ givers_of variable rows numbers
