-- The body of a branch that is entered, as the code has it.
use Rattle.std.specs.Prelude.{◌≡◌, ◌<◌, List, length, Option, Some, None, IfSome, option_map}
use Rattle.cd_syntax.specs.TypeTree.{Tree}
use Rattle.cd_model.specs.Thing.{Thing}
use Rattle.cd_program.specs.PlainExpr.{plain}
use Rattle.cd_cells.specs.declared.cell.Part.{Part}
use Rattle.cd_cells.specs.declared.values.Values.{Values}
use Rattle.cd_evaluation.specs.Code.{Code}
use Rattle.cd_evaluation.specs.Environment.{Env, with_all}
use Rattle.cd_machine.specs.Inner.CodeTurns.{pays}
use Rattle.cd_machine.specs.Inner.PlainFrame.{env_at}
use Rattle.cd_machine.specs.Inner.Resuming as resuming
use Rattle.cd_machine.specs.declared.branches.Entry.{Entry}
use Rattle.cd_machine.specs.declared.environments.EnvId.{EnvId}
use Rattle.cd_machine.specs.declared.frame.Frame.{Frame}
use Rattle.cd_machine.specs.declared.outcome.Outcome.{Outcome}
use Rattle.cd_machine.specs.declared.turn.Control.TheVariants.{Evaluating, Returning}
use Rattle.cd_machine.specs.declared.turn.Turn.{Turn}

module _ (values : Values) (environments : List (List Part)) where
  abbrev pub plain_entry : Entry → resuming.Entry
  plain_entry entry = (plain entry.body.now, env_at values environments entry.env)

  abbrev pub plain_choice : Option Entry → Option resuming.Entry
  plain_choice found = option_map plain_entry found

-- Where a pattern takes a value, the environment of what it captures, before another one
abbrev pub Takes : Values → List (List Part) → Code → Tree → Thing → Env → Option EnvId → Type 0
Takes values environments code pattern v env found = (answer : Option Env)
    × code.take pattern v answer
    × (option_map (env_at values environments) found
    ≡ option_map (λ own. with_all own env) answer)

-- its environment is one of these
abbrev pub IsEntry : List (List Part) → Option Entry → Type 0
IsEntry environments found = IfSome found (λ entry. entry.env.0 < length environments)

-- a unit is taken, and the body is evaluated for this frame, or there is an outcome
abbrev pub enters : Option Entry → Option Frame → (otherwise : Outcome) → Turn
enters None frame otherwise = pays (Returning otherwise) None
enters (Some entry) frame otherwise = pays (Evaluating entry.body entry.env) frame

-- or there is an outcome for the frame too
abbrev pub enters_or : Option Entry → Frame → (otherwise : Outcome) → Turn
enters_or None frame otherwise = pays (Returning otherwise) (Some frame)
enters_or (Some entry) frame otherwise = pays (Evaluating entry.body entry.env) (Some frame)
