-- What the machine does next: a turn.
use Rattle.std.specs.Prelude.{◌<◌, ℕ, zero, suc, Bool, true, false, MatchBool, List, [], ◌++◌}
use Rattle.cd_program.specs.Expr.{Expr}
use Rattle.cd_evaluation.specs.Runs.{Outcome, Spent}
use Rattle.cd_evaluation.specs.Environment.{Env}
use Rattle.cd_evaluation.specs.Code.{Code}
use Rattle.cd_evaluation.specs.Meaning.{calls}
use Rattle.cd_evaluation.specs.Machine.{Frame, Control, Evaluating, Returning}
use Rattle.cd_evaluation.specs.Machine.{State, state, returning}
use Rattle.cd_evaluation.specs.Ends.{Keeps}
use Rattle.cd_evaluation.specs.Measure.{measure}

-- whether a unit is taken, what comes then, and the frames that wait for that, the innermost first
pub record Turn : Type 0 where
  pub takes : Bool
  pub control : Control
  pub pushed : List Frame

-- an expression is evaluated, for these frames
abbrev pub evaluate : Expr → Env → List Frame → Turn
evaluate e env pushed =
    record { takes = false; control = Evaluating e env; pushed = pushed }

-- an outcome is given to the frame below, or to these frames
abbrev pub give_to : List Frame → Outcome → Turn
give_to pushed outcome =
    record { takes = false; control = Returning outcome; pushed = pushed }

abbrev pub give : Outcome → Turn
give outcome = give_to [] outcome

-- the same, once a unit is taken
abbrev pub paid : Turn → Turn
paid turn = record { takes = true; control = turn.control; pushed = turn.pushed }

-- the state after a turn, with the units that are left
abbrev pub after : Turn → (units : ℕ) → (below : List Frame) → State
after turn units below = state turn.control units (turn.pushed ++ below)

-- From what comes to some frames the machine goes on by a turn, whatever frames stand below
module _ (code : Code) (control : Control) (top : List Frame) (turn : Turn) where
  -- with no unit, it has less to do then
  pub record GoesFreely : Type 0 where
    pub keeps : (depth units : ℕ) (below : List Frame)
        → Keeps code (calls code depth) (state control units (top ++ below))
        (after turn units below)
    pub falls : (units : ℕ) (below : List Frame)
        → measure (after turn units below) < measure (state control units (top ++ below))

  -- with a unit, where none is left the run is spent
  pub record GoesByUnit : Type 0 where
    pub keeps : (depth units : ℕ) (below : List Frame) → units < depth
        → Keeps code (calls code depth) (state control (suc units) (top ++ below))
        (after turn units below)
    pub spent : (depth : ℕ) (below : List Frame)
        → Keeps code (calls code depth) (state control zero (top ++ below))
        (returning Spent zero below)

  abbrev pub GoesOn : Type 0
  GoesOn = MatchBool turn.takes GoesByUnit GoesFreely
