-- Turns as the code has them.
use Rattle.std.specs.Prelude.{Bool, true, false, Option, Some, None}
use Rattle.std.specs.Borrow.{Bor}
use Rattle.cd_program.specs.declared.expr.Expr.{Expr}
use Rattle.cd_cells.specs.declared.cell.ValueId.{ValueId}
use Rattle.cd_machine.specs.declared.environments.EnvId.{EnvId}
use Rattle.cd_machine.specs.declared.frame.Frame.{Frame}
use Rattle.cd_machine.specs.declared.outcome.Outcome.{Outcome}
use Rattle.cd_machine.specs.declared.turn.Control.{Control}
use Rattle.cd_machine.specs.declared.turn.Control.TheVariants.{Evaluating, Returning}
use Rattle.cd_machine.specs.declared.turn.Turn.{Turn}

abbrev pub a_turn : Bool → Control → Option Frame → Turn
a_turn takes control frame =
    record { takes = takes; control = control; frame = frame; first = None }

-- an expression is evaluated, for this frame
abbrev pub evaluates : Bor Expr → EnvId → Option Frame → Turn
evaluates e env frame = a_turn false (Evaluating e env) frame

-- an outcome is given to the frame below
abbrev pub gives : Outcome → Turn
gives outcome = a_turn false (Returning outcome) None

-- a unit is taken first
abbrev pub pays : Control → Option Frame → Turn
pays control frame = a_turn true control frame

-- the next part of a tuple is evaluated, after the first one
abbrev pub evaluates_part : Bor Expr → EnvId → Option Frame → ValueId → Turn
evaluates_part e env frame first =
    record { takes = false; control = Evaluating e env; frame = frame; first = Some first }

-- the same turn once a unit is taken
abbrev pub pays_for : Turn → Turn
pays_for turn =
    record { takes = true; control = turn.control; frame = turn.frame; first = turn.first }
