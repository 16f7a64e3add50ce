-- Operators whose operands are at hand.
use Rattle.std.specs.Prelude.{◌≡◌, true, List, ◌++◌}
use Rattle.cd_syntax.specs.declared.tokens.Span.{Span}
use Rattle.cd_cells.specs.declared.cell.Part.{Part}
use Rattle.cd_cells.specs.declared.values.Values.{Values}
use Rattle.cd_code.specs.declared.code.Code.{Code as CodeOf}
use Rattle.cd_model.specs.Thing.{Thing}
use Rattle.cd_program.specs.declared.operator.Op.{Op}
use Rattle.cd_program.specs.Expr.{Expr, expr, Kind}
use Rattle.cd_evaluation.specs.Code.{Code}
use Rattle.cd_evaluation.specs.Environment.{Env}
use Rattle.cd_evaluation.specs.Evaluation.{IsStrict}
use Rattle.cd_evaluation.specs.Machine.{Control, Frame, Evaluating}
use Rattle.cd_evaluation.specs.Operations.{operate}
use Rattle.cd_evaluation.specs.Runs.{Outcome, Done}
use Rattle.cd_machine.specs.Inner.Entering.{expr_turn, kind_turn}
use Rattle.cd_machine.specs.Inner.Running.{Leads}
use Rattle.cd_machine.specs.Inner.CodeIn.{code_in, IsPatternIn}
use Rattle.cd_machine.specs.Inner.Known.{TurnIsKnown}
use Rattle.cd_machine.specs.Inner.PlainFrame.{plain_turn, env_at, IsTurn}
use Rattle.cd_machine.specs.Inner.Turn.{Turn, give, GoesByUnit}
use Rattle.cd_machine.specs.declared.environments.EnvId.{EnvId}
use Rattle.cd_machine.specs.declared.turn.Turn.{Turn as TurnOf}

module _ (code : Code) where
  -- an expression gives this value at once
  abbrev pub Gives : Expr → Env → Thing → Type 0
  Gives e env v = expr_turn code e env ≡ give (Done v)

  abbrev pub GivesKind : Kind → Env → Thing → Type 0
  GivesKind kind env v = kind_turn code kind env ≡ give (Done v)

  -- what an operator makes of two such expressions
  pub record Computes (first : Expr) (is : Op) (second : Expr) (env : Env) (outcome : Outcome)
      : Type 0 where
    pub strict : IsStrict is
    pub left : Thing
    pub right : Thing
    pub first_gives : Gives first env left
    pub second_gives : Gives second env right
    pub makes : outcome ≡ operate is left right

  -- from an expression the machine comes to a turn that takes a unit, whatever frames wait
  pub record ReachesUnit (e : Expr) (env : Env) (turn : Turn) : Type 0 where
    pub last : Control
    pub top : List Frame
    pub leads : (below : List Frame) → Leads code (Evaluating e env) below last (top ++ below)
    pub goes : GoesByUnit code last top turn

-- the turn is the one that the machine comes to from what an expression is, wherever that stands
pub record KindComes (code : CodeOf) (values : Values) (environments : List (List Part))
    (kind : Kind)
    (env : EnvId) (turn : TurnOf) : Type 0 where
  pub takes : turn.takes ≡ true
  pub reaches : (span : Span) → ReachesUnit (code_in code) (expr span kind)
      (env_at values environments env) (plain_turn values environments turn)
  pub within : IsTurn values environments turn
  pub known : TurnIsKnown (IsPatternIn code) (plain_turn values environments turn)

abbrev pub ComesAtHand : CodeOf → Values → List (List Part) → Expr → EnvId → TurnOf → Type 0
ComesAtHand code values environments (expr span kind) env turn =
    KindComes code values environments kind env turn
