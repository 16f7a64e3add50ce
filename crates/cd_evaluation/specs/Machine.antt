-- A machine with a stack, as plain data: it evaluates expressions with no recursion.
use Rattle.std.specs.Prelude.{ℕ, List, [], ◌∷◌}
use Rattle.cd_syntax.specs.Name.{Name}
use Rattle.cd_syntax.specs.TypeTree.{Tree}
use Rattle.cd_model.specs.Thing as thing
use Rattle.cd_model.specs.Thing.{Thing}
use Rattle.cd_program.specs.declared.operator.Op.{Op}
use Rattle.cd_program.specs.declared.operator.BuiltIn.{BuiltIn as Word}
use Rattle.cd_program.specs.Expr.{Expr, Exprs, NoExpr, Items, Fields, Tails, Branches}
use Rattle.cd_evaluation.specs.Runs.{Outcome, Done}
use Rattle.cd_evaluation.specs.Environment.{Env}

-- what waits for an outcome
pub data Frame : Type 0 where
  -- the first part of a tuple is evaluated, before these; and the parts after the first
  First : (next : Expr) (rest : Exprs) → Env → Frame
  Second : (first : Thing) → Frame
  -- an item, and a sequence whose items stand there: after these, from the last, and before those
  Iteming : (done : List Thing) → Items → Env → Frame
  Splicing : (done : List Thing) → Items → Env → Frame
  -- the field of a label, beside these and before those
  Fielding : (done : thing.Fields) (label : Name) → Fields → Env → Frame
  -- the tag, the attributes and the content of an XML value
  Tagging : (attributes content : Expr) → Env → Frame
  Attributing : (tag : Thing) (content : Expr) → Env → Frame
  Filling : (tag attributes : Thing) → Frame
  -- a function, which is given these arguments; and an argument of this function, before those
  Called : (arguments : Exprs) → Env → Frame
  Argument : (self : Thing) (arguments : Exprs) → Env → Frame
  -- the value of `match`, `let` and `if`, the body of `try`, and the operand of a word
  Matching : Branches → Env → Frame
  Trying : Branches → Env → Frame
  Letting : (pattern : Tree) → (rest : Expr) → Env → Frame
  Asking : (then_one else_one : Expr) → Env → Frame
  Wording : Word → Frame
  -- the operand before these operators; and the right operand of one, after this value
  Tailing : Tails → Env → Frame
  Operating : Op → (left : Thing) → Tails → Env → Frame
  -- the sequence of `map`; and what comes of an item, after these results, from the last, and
  -- before those items. The same for `transform`
  Listing : Branches → Env → Frame
  Mapping : Branches → Env → (done left : List Thing) → Frame
  Sifting : Branches → Env → Frame
  Joining : Branches → Env → (done left : List Thing) → Frame

pub data Control : Type 0 where
  Evaluating : Expr → Env → Control
  Returning : Outcome → Control

-- the units that are left, and the frames, the innermost first
pub record State : Type 0 where
  pub control : Control
  pub units : ℕ
  pub stack : List Frame

abbrev pub state : Control → ℕ → List Frame → State
state control units stack = record { control = control; units = units; stack = stack }

abbrev pub evaluating : Expr → Env → ℕ → List Frame → State
evaluating e env units stack = state (Evaluating e env) units stack

abbrev pub returning : Outcome → ℕ → List Frame → State
returning outcome units stack = state (Returning outcome) units stack

-- the application of `main` to a document
abbrev pub start : (main document : Thing) → (units : ℕ) → State
start main document units =
    returning (Done document) units (Argument main NoExpr thing.NoField ∷ [])
