-- What an operation ends with, over the values of a table.
use Rattle.std.specs.Prelude.{ℕ, ◌<◌, List}
use Rattle.cd_model.specs.Thing.{Thing}
use Rattle.cd_cells.specs.Cells.{thing_at}
use Rattle.cd_evaluation.specs.Runs as runs
use Rattle.cd_evaluation.specs.Runs.{Outcome}
use Rattle.cd_operations.specs.declared.ending.Ending.{Ending}
use Rattle.cd_operations.specs.declared.ending.Ending.TheVariants.{Done, Raised, Overflow, Stuck}

-- the outcome, with its value
abbrev pub plain_ending : List Thing → Ending → Outcome
plain_ending table (Done id) = runs.Done (thing_at table id.0)
plain_ending table (Raised id) = runs.Raised (thing_at table id.0)
plain_ending table Overflow = runs.Overflow
plain_ending table Stuck = runs.Stuck

-- its value has a number below this one
abbrev pub IsEnding : (bound : ℕ) → Ending → Type 0
IsEnding bound (Done id) = id.0 < bound
IsEnding bound (Raised id) = id.0 < bound
IsEnding bound _ = Unit {0}
