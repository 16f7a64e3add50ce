-- The machine at work.
use Rattle.std.specs.Prelude.{◌≡◌, ◌≤◌, ℕ, false, List, [], ◌++◌, length}
use Rattle.cd_model.specs.AllOf.{AllOf}
use Rattle.cd_model.specs.Thing.{Thing}
use Rattle.cd_cells.specs.Table.{table}
use Rattle.cd_cells.specs.declared.cell.Part.{Part}
use Rattle.cd_cells.specs.declared.values.Values.{Values}
use Rattle.cd_code.specs.declared.code.Code.{Code}
use Rattle.cd_evaluation.specs.Code as evaluation
use Rattle.cd_evaluation.specs.Ends.{Keeps}
use Rattle.cd_evaluation.specs.Machine as machine
use Rattle.cd_evaluation.specs.Machine.{state}
use Rattle.cd_evaluation.specs.Meaning.{calls}
use Rattle.cd_evaluation.specs.Measure.{measure}
use Rattle.cd_machine.specs.PlainRan.{plain_outcome, IsOutcome}
use Rattle.cd_machine.specs.Inner.CodeIn.{code_in, IsPatternIn}
use Rattle.cd_machine.specs.Inner.InOrder.{IsInOrder}
use Rattle.cd_machine.specs.Inner.Known.{FunctionsAreKnown, ControlIsKnown, FrameIsKnown}
use Rattle.cd_machine.specs.Inner.Known.{TurnIsKnown}
use Rattle.cd_machine.specs.Inner.PlainFrame.{plain_control, plain_frames, plain_turn}
use Rattle.cd_machine.specs.Inner.PlainFrame.{IsControl, IsFrame, IsTurn}
use Rattle.cd_machine.specs.Inner.Turn.{GoesOn, GoesByUnit}
use Rattle.cd_machine.specs.declared.frame.Frame.{Frame}
use Rattle.cd_machine.specs.declared.outcome.Outcome.{Outcome}
use Rattle.cd_machine.specs.declared.outcome.Ran.{Ran}
use Rattle.cd_machine.specs.declared.turn.Control.{Control}
use Rattle.cd_machine.specs.declared.turn.Turn.{Turn}
use Rattle.cd_machine.specs.declared.machine.Next.{Next}
use Rattle.cd_machine.specs.declared.machine.Next.TheVariants as next

-- what waits has values of the table and environments, and is known
pub record Waits (code : Code) (values : Values) (environments : List (List Part))
    (stack : List Frame) : Type 0 where
  pub order : IsInOrder code values environments
  pub functions : FunctionsAreKnown (IsPatternIn code) (code_in code)
  pub frames : AllOf (IsFrame values environments) stack
  pub known : AllOf (FrameIsKnown (IsPatternIn code)) (plain_frames values environments stack)

-- and so has what is at hand
pub record IsRunning (code : Code) (values : Values) (environments : List (List Part))
    (control : Control) (stack : List Frame) : Type 0 where
  pub waits : Waits code values environments stack
  pub at_hand : IsControl values environments control
  pub known : ControlIsKnown (IsPatternIn code) (plain_control values environments control)

abbrev pub plain_state : Values → List (List Part) → Control → ℕ → List Frame → machine.State
plain_state values environments control units stack =
    state (plain_control values environments control) units (plain_frames values environments stack)

-- whatever units are left, the old state goes on to the new one
abbrev pub Leads : evaluation.Code → machine.Control → List machine.Frame → machine.Control
    → List machine.Frame → Type 0
Leads code control stack control' stack' = (depth units : ℕ)
    → Keeps code (calls code depth) (state control units stack) (state control' units stack')

-- The turn from what is at hand and what waits for it, of which the rest still waits. Where it
-- takes a unit, others that take none may come before it
pub record Turns (code : Code) (values : Values) (environments : List (List Part))
    (control : machine.Control) (stack : List machine.Frame) (rest : List Frame) (turn : Turn)
    : Type 0 where
  pub last : machine.Control
  pub top : List machine.Frame
  pub leads : Leads (code_in code) control stack last
      (top ++ plain_frames values environments rest)
  pub at_once : turn.takes ≡ false
      → (control ≡ last) × (stack ≡ top ++ plain_frames values environments rest)
  pub goes : GoesOn (code_in code) last top (plain_turn values environments turn)
  pub within : IsTurn values environments turn
  pub known : TurnIsKnown (IsPatternIn code) (plain_turn values environments turn)
  pub waits : Waits code values environments rest

-- or nothing waits for the outcome that is at hand
pub record EndsAt (values : Values) (control : machine.Control) (stack : List machine.Frame)
    (outcome : Outcome) : Type 0 where
  pub control_is : control ≡ machine.Returning (plain_outcome (table values) outcome)
  pub none : stack ≡ []
  pub within : IsOutcome (length (table values)) outcome

abbrev pub TurnsOrEnds : Code → Values → List (List Part) → machine.Control → List machine.Frame
    → (rest : List Frame) → Next → Type 0
TurnsOrEnds code values environments control stack rest (next.Turn turn) =
    Turns code values environments control stack rest turn
TurnsOrEnds code values environments control stack rest (next.End outcome) =
    EndsAt values control stack outcome

-- The machine comes to a turn that takes a unit, whatever units are left
pub record ComesToUnit (code : Code) (values : Values) (environments : List (List Part))
    (control : machine.Control) (stack : List machine.Frame) (rest : List Frame) (turn : Turn)
    : Type 0 where
  pub last : machine.Control
  pub top : List machine.Frame
  pub leads : Leads (code_in code) control stack last
      (top ++ plain_frames values environments rest)
  pub goes : GoesByUnit (code_in code) last top (plain_turn values environments turn)
  pub within : IsTurn values environments turn
  pub known : TurnIsKnown (IsPatternIn code) (plain_turn values environments turn)
  pub waits : Waits code values environments rest

-- or to an outcome for which nothing waits
pub record ComesToEnd (code : Code) (values : Values) (control : machine.Control)
    (stack : List machine.Frame) (outcome : Outcome) : Type 0 where
  pub leads : Leads (code_in code) control stack
      (machine.Returning (plain_outcome (table values) outcome)) []
  pub within : IsOutcome (length (table values)) outcome

abbrev pub Stops : Code → Values → List (List Part) → machine.Control → List machine.Frame
    → (rest : List Frame) → Next → Type 0
Stops code values environments control stack rest (next.Turn turn) =
    ComesToUnit code values environments control stack rest turn
Stops code values environments control stack rest (next.End outcome) =
    ComesToEnd code values control stack outcome

-- how much is left to do before a unit is taken
abbrev pub left_to_do : Values → List (List Part) → Control → List Frame → ℕ
left_to_do values environments control stack =
    measure (plain_state values environments control 0 stack)

-- with so many units, applied one in the other at least so often, this is what it comes to
abbrev pub RunsTo : evaluation.Code → List Thing → (units : ℕ) → machine.Control
    → List machine.Frame → Ran → Type 0
RunsTo code table units control stack ran = (depth : ℕ) → units ≤ depth
    → Keeps code (calls code depth) (state control units stack)
    (machine.returning (plain_outcome table ran.outcome) ran.left [])
