-- What operations end with, as outcomes.
use Rattle.cd_operations.specs.declared.ending.Ending.{Ending}
use Rattle.cd_operations.specs.declared.ending.Ending.TheVariants as ending
use Rattle.cd_machine.specs.declared.outcome.Outcome.{Outcome}
use Rattle.cd_machine.specs.declared.outcome.Outcome.TheVariants.{Done, Raised, Overflow, Stuck}

abbrev pub outcome_of : Ending → Outcome
outcome_of (ending.Done id) = Done id
outcome_of (ending.Raised id) = Raised id
outcome_of ending.Overflow = Overflow
outcome_of ending.Stuck = Stuck
