-- The patterns of a program, and where they begin in its text.
use Rattle.std.specs.Prelude.{◌≢◌, ℕ, List, [], ◌∷◌, ◌++◌}
use Rattle.cd_syntax.specs.TypeTree.{Tree, tree}
use Rattle.cd_model.specs.AllOf.{AllOf}
use Rattle.cd_program.specs.Expr.{Expr, expr, Kind, Tuple, Sequence, Record, Xml, Function, Apply}
use Rattle.cd_program.specs.Expr.{Match, Try, Map, Transform, Let, If, Chain, Call, Exprs, NoExpr}
use Rattle.cd_program.specs.Expr.{AnExpr, Items, NoItem, AnItem, One, Splice, Run, Fields, NoField}
use Rattle.cd_program.specs.Expr.{AField, Tails, NoTail, ATail, Operand, Without, Select, Branches}
use Rattle.cd_program.specs.Expr.{NoBranch, ABranch, FunctionTree, function, Program}

-- the patterns that stand in an expression
abbrev mutual
  pub patterns_in : Expr → List Tree
  patterns_in (expr span kind) = patterns_in_kind kind

  pub patterns_in_kind : Kind → List Tree
  patterns_in_kind (Tuple exprs) = patterns_in_exprs exprs
  patterns_in_kind (Sequence items) = patterns_in_items items
  patterns_in_kind (Record fields) = patterns_in_fields fields
  patterns_in_kind (Xml tag attributes content) =
      patterns_in tag ++ (patterns_in attributes ++ patterns_in content)
  patterns_in_kind (Function f) = patterns_of_function f
  patterns_in_kind (Apply exprs) = patterns_in_exprs exprs
  patterns_in_kind (Match e branches) = patterns_in e ++ patterns_in_branches branches
  patterns_in_kind (Try body branches) = patterns_in body ++ patterns_in_branches branches
  patterns_in_kind (Map e branches) = patterns_in e ++ patterns_in_branches branches
  patterns_in_kind (Transform e branches) = patterns_in e ++ patterns_in_branches branches
  patterns_in_kind (Let pattern e rest) = pattern ∷ (patterns_in e ++ patterns_in rest)
  patterns_in_kind (If condition then_one else_one) =
      patterns_in condition ++ (patterns_in then_one ++ patterns_in else_one)
  patterns_in_kind (Chain first tails) = patterns_in first ++ patterns_in_tails tails
  patterns_in_kind (Call word e) = patterns_in e
  patterns_in_kind kind = []

  pub patterns_in_exprs : Exprs → List Tree
  patterns_in_exprs NoExpr = []
  patterns_in_exprs (AnExpr e rest) = patterns_in e ++ patterns_in_exprs rest

  pub patterns_in_items : Items → List Tree
  patterns_in_items NoItem = []
  patterns_in_items (AnItem (One e) rest) = patterns_in e ++ patterns_in_items rest
  patterns_in_items (AnItem (Splice e) rest) = patterns_in e ++ patterns_in_items rest
  patterns_in_items (AnItem (Run characters) rest) = patterns_in_items rest

  pub patterns_in_fields : Fields → List Tree
  patterns_in_fields NoField = []
  patterns_in_fields (AField label at e rest) = patterns_in e ++ patterns_in_fields rest

  pub patterns_in_tails : Tails → List Tree
  patterns_in_tails NoTail = []
  patterns_in_tails (ATail (Operand op e) rest) = patterns_in e ++ patterns_in_tails rest
  patterns_in_tails (ATail (Without label) rest) = patterns_in_tails rest
  patterns_in_tails (ATail (Select label) rest) = patterns_in_tails rest

  pub patterns_in_branches : Branches → List Tree
  patterns_in_branches NoBranch = []
  patterns_in_branches (ABranch pattern body rest) =
      pattern ∷ (patterns_in body ++ patterns_in_branches rest)

  pub patterns_of_function : FunctionTree → List Tree
  patterns_of_function (function at name name_at interface branches) = patterns_in_branches branches

abbrev pub patterns_of_functions : List FunctionTree → List Tree
patterns_of_functions [] = []
patterns_of_functions (f ∷ rest) = patterns_of_function f ++ patterns_of_functions rest

abbrev pub all_patterns : Program → List Tree
all_patterns program = patterns_of_functions program.functions

-- where a tree begins in the text
abbrev pub start_of : Tree → ℕ
start_of (tree span kind) = span.from

-- no two of some trees begin at one place
abbrev pub StartsDiffer : List Tree → Type 0
StartsDiffer [] = Unit {0}
StartsDiffer (first ∷ rest) = AllOf (λ other. start_of first ≢ start_of other) rest
    × StartsDiffer rest
