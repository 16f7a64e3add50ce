-- What is left to do between two units: the size of the control and the weights of the frames. It
-- falls with each step that takes no unit.
use Rattle.std.specs.Prelude.{◌+◌, ℕ, List, [], ◌∷◌}
use Rattle.cd_program.specs.Expr.{Expr, expr, Kind, Tuple, Sequence, Record, Xml, Apply, Match, Try}
use Rattle.cd_program.specs.Expr.{Map, Transform, Let, If, Chain, Call, Exprs, NoExpr, AnExpr}
use Rattle.cd_program.specs.Expr.{Items, NoItem, AnItem, Item, One, Splice, Run}
use Rattle.cd_program.specs.Expr.{Fields, NoField, AField}
use Rattle.cd_program.specs.Expr.{Tails, NoTail, ATail, Tail, Operand, Without, Select}
use Rattle.cd_evaluation.specs.Machine.{Frame, First, Iteming, Fielding, Tagging, Attributing}
use Rattle.cd_evaluation.specs.Machine.{Called, Tailing, Control, Evaluating, Returning, State}

-- branches, and what a test chooses, come after a unit
abbrev mutual
  pub size : Expr → ℕ
  size (expr span kind) = 1 + size_kind kind

  pub size_kind : Kind → ℕ
  size_kind (Tuple exprs) = size_exprs exprs
  size_kind (Sequence all) = size_items all
  size_kind (Record fields) = size_fields fields
  size_kind (Xml tag attributes content) = 3 + size tag + size attributes + size content
  size_kind (Apply exprs) = size_exprs exprs
  size_kind (Match e branches) = 1 + size e
  size_kind (Try body branches) = 1 + size body
  size_kind (Map e branches) = 1 + size e
  size_kind (Transform e branches) = 1 + size e
  size_kind (Let pattern e rest) = 1 + size e
  size_kind (If condition then_one else_one) = 1 + size condition
  size_kind (Chain first tails) = 1 + size first + size_tails tails
  size_kind (Call word e) = 1 + size e
  size_kind kind = 0

  pub size_exprs : Exprs → ℕ
  size_exprs NoExpr = 0
  size_exprs (AnExpr e rest) = 2 + size e + size_exprs rest

  pub size_items : Items → ℕ
  size_items NoItem = 0
  size_items (AnItem item rest) = size_item item + size_items rest

  pub size_item : Item → ℕ
  size_item (One e) = 1 + size e
  size_item (Splice e) = 1 + size e
  size_item (Run characters) = 0

  pub size_fields : Fields → ℕ
  size_fields NoField = 0
  size_fields (AField label at e rest) = 1 + size e + size_fields rest

  pub size_tails : Tails → ℕ
  size_tails NoTail = 0
  size_tails (ATail tail rest) = size_tail tail + size_tails rest

  pub size_tail : Tail → ℕ
  size_tail (Operand op e) = 1 + size e
  size_tail (Without label) = 0
  size_tail (Select label) = 0

abbrev pub weight : Frame → ℕ
weight (First next rest env) = 2 + size next + size_exprs rest
weight (Iteming done rest env) = 1 + size_items rest
weight (Fielding done label rest env) = 1 + size_fields rest
weight (Tagging attributes content env) = 3 + size attributes + size content
weight (Attributing tag content env) = 2 + size content
weight (Called arguments env) = 1 + size_exprs arguments
weight (Tailing tails env) = 1 + size_tails tails
weight frame = 1

abbrev pub weights : List Frame → ℕ
weights [] = 0
weights (frame ∷ stack) = weight frame + weights stack

abbrev pub control_size : Control → ℕ
control_size (Evaluating e env) = size e
control_size (Returning outcome) = 0

abbrev pub measure : State → ℕ
measure state = control_size state.control + weights state.stack
