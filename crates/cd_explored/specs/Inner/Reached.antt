-- The places that are reached by steps that do not leave out a variable, by their numbers.
use Rattle.std.specs.Prelude.{◌≡◌, ℕ, Bool, true, false, eqb, List, ◌++◌, map, Option, Some}
use Rattle.std.specs.Prelude.{None, if◌then◌else◌}
use Rattle.std.specs.List.{slice_get, All, Contains}
use Rattle.std.specs.declared.alloc.Global.{Global}
use Rattle.std.specs.declared.vec.Vec.{Vec}
use Rattle.cd_explored.specs.declared.step.Step.{Step}
use Rattle.cd_explored.specs.declared.step.Step.TheVariants.{Leads}

-- the steps of each place
abbrev pub Rows : Type 0
Rows = List (List Step)

abbrev pub rows_of : List (Vec Step Global) → Rows
rows_of = map (λ row. row.items)

-- the place that a step leads to, unless it leaves out the variable
abbrev pub is_left_out : (variable : ℕ) → Option ℕ → Bool
is_left_out variable None = false
is_left_out variable (Some other) = eqb other variable

abbrev pub led_to : (variable : ℕ) → Step → Option ℕ
led_to variable (Leads but next) = if is_left_out variable but then None else Some next
led_to variable step = None

abbrev pub IsLedBy : (variable : ℕ) → List Step → ℕ → Type 0
IsLedBy variable row next = (step : Step) × Contains row step × (led_to variable step ≡ Some next)

abbrev pub IsLedTo : Rows → (variable : ℕ) → (number next : ℕ) → Type 0
IsLedTo rows variable number next = (row : List Step) × (slice_get rows number ≡ Some row)
    × IsLedBy variable row next

pub data ReachesBy (rows : Rows) (variable : ℕ) : ℕ → ℕ → Type 0 where
  itself : (number : ℕ) → ReachesBy rows variable number number
  further : (number next last : ℕ) → IsLedTo rows variable number next
      → ReachesBy rows variable next last → ReachesBy rows variable number last

-- what is marked is among the numbers
abbrev pub AreMarked : (marks : List Bool) → (numbers : List ℕ) → Type 0
AreMarked marks numbers = (number : ℕ) → slice_get marks number ≡ Some true
    → Contains numbers number

-- numbers of which each has the fact come after others
abbrev pub Adds : (fact : ℕ → Type 0) → (old new : List ℕ) → Type 0
Adds fact old new = (more : List ℕ) × (new ≡ old ++ more) × All fact more
