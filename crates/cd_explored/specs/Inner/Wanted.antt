-- What is wanted.
use Rattle.std.specs.Prelude.{◌≡◌, ◌<◌, ◌++◌, ℕ, List, Some}
use Rattle.std.specs.List.{slice_get, Contains}
use Rattle.cd_explored.specs.declared.step.Step.{Step}
use Rattle.cd_explored.specs.declared.step.Step.TheVariants.{Gathers}
use Rattle.cd_explored.specs.declared.want.Want.{Want}
use Rattle.cd_explored.specs.declared.want.Want.TheVariants.{Captures}
use Rattle.cd_explored.specs.Inner.Reached.{Rows}

-- wants are there, and others may come after them
abbrev pub GrowTo : (old new : List Want) → Type 0
GrowTo old new = (more : List Want) × (new ≡ old ++ more)

module _ (wants : List Want) where
  abbrev pub AreOnce : Type 0
  AreOnce = (one other : ℕ) (want : Want) → slice_get wants one ≡ Some want
      → slice_get wants other ≡ Some want → one ≡ other

  -- what each of so many variables captures at the first place is wanted under the variable's
  -- number
  abbrev pub AreFirst : (variables : ℕ) → Type 0
  AreFirst variables = (variable : ℕ) → variable < variables
      → slice_get wants variable ≡ Some (Captures variable 0)

  -- what is gathered by steps is wanted
  abbrev pub AreGatheredBy : List Step → Type 0
  AreGatheredBy row = (variable item next : ℕ) → Contains row (Gathers variable item next)
      → Contains wants (Captures variable next)

  abbrev pub AreGathered : Rows → Type 0
  AreGathered rows = (number : ℕ) (row : List Step) → slice_get rows number ≡ Some row
      → AreGatheredBy row
