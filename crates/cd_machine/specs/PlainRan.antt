-- How a run ended, as plain data.
use Rattle.std.specs.Prelude.{ℕ, ◌<◌, List}
use Rattle.cd_model.specs.Thing.{Thing}
use Rattle.cd_cells.specs.Cells.{thing_at}
use Rattle.cd_evaluation.specs.Runs as runs
use Rattle.cd_evaluation.specs.Runs.{Result}
use Rattle.cd_machine.specs.declared.outcome.Outcome.{Outcome}
use Rattle.cd_machine.specs.declared.outcome.Outcome.TheVariants.{Done, Raised, Overflow, Spent}
use Rattle.cd_machine.specs.declared.outcome.Outcome.TheVariants.{Stuck}
use Rattle.cd_machine.specs.declared.outcome.Ran.{Ran}

-- the outcome, with its value
abbrev pub plain_outcome : List Thing → Outcome → runs.Outcome
plain_outcome table (Done id) = runs.Done (thing_at table id.0)
plain_outcome table (Raised id) = runs.Raised (thing_at table id.0)
plain_outcome table Overflow = runs.Overflow
plain_outcome table Spent = runs.Spent
plain_outcome table Stuck = runs.Stuck

-- its value has a number below this one
abbrev pub IsOutcome : (bound : ℕ) → Outcome → Type 0
IsOutcome bound (Done id) = id.0 < bound
IsOutcome bound (Raised id) = id.0 < bound
IsOutcome bound _ = Unit {0}

abbrev pub plain_ran : List Thing → Ran → Result
plain_ran table ran = record { outcome = plain_outcome table ran.outcome; left = ran.left }
