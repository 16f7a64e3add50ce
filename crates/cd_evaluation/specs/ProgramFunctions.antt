-- The functions of a program, and how they are found: by their places, and those that are declared
-- by their names.
use Rattle.std.specs.Prelude.{◌≢◌, ℕ, ◌==◌, Bool, false, List, [], ◌∷◌, ◌++◌, Option, Some, None}
use Rattle.std.specs.Prelude.{bytes_eq, if◌then◌else◌}
use Rattle.cd_syntax.specs.Name.{Name}
use Rattle.cd_model.specs.AllOf.{AllOf}
use Rattle.cd_program.specs.Expr.{Expr, expr, Kind, Tuple, Sequence, Record, Xml, Function, Apply}
use Rattle.cd_program.specs.Expr.{Match, Try, Map, Transform, Let, If, Chain, Call, Exprs, NoExpr}
use Rattle.cd_program.specs.Expr.{AnExpr, Items, NoItem, AnItem, One, Splice, Run, Fields, NoField}
use Rattle.cd_program.specs.Expr.{AField, Tails, NoTail, ATail, Operand, Without, Select, Branches}
use Rattle.cd_program.specs.Expr.{NoBranch, ABranch, FunctionTree, function, Program}
use Rattle.cd_evaluation.specs.Code.{place_of}

-- the functions that stand in an expression, in the order of the text
abbrev mutual
  pub functions_in : Expr → List FunctionTree
  functions_in (expr span kind) = functions_in_kind kind

  pub functions_in_kind : Kind → List FunctionTree
  functions_in_kind (Tuple exprs) = functions_in_exprs exprs
  functions_in_kind (Sequence items) = functions_in_items items
  functions_in_kind (Record fields) = functions_in_fields fields
  functions_in_kind (Xml tag attributes content) =
      functions_in tag ++ (functions_in attributes ++ functions_in content)
  functions_in_kind (Function f) = f ∷ functions_within f
  functions_in_kind (Apply exprs) = functions_in_exprs exprs
  functions_in_kind (Match e branches) = functions_in e ++ functions_in_branches branches
  functions_in_kind (Try body branches) = functions_in body ++ functions_in_branches branches
  functions_in_kind (Map e branches) = functions_in e ++ functions_in_branches branches
  functions_in_kind (Transform e branches) = functions_in e ++ functions_in_branches branches
  functions_in_kind (Let pattern e rest) = functions_in e ++ functions_in rest
  functions_in_kind (If condition then_one else_one) =
      functions_in condition ++ (functions_in then_one ++ functions_in else_one)
  functions_in_kind (Chain first tails) = functions_in first ++ functions_in_tails tails
  functions_in_kind (Call word e) = functions_in e
  functions_in_kind kind = []

  pub functions_in_exprs : Exprs → List FunctionTree
  functions_in_exprs NoExpr = []
  functions_in_exprs (AnExpr e rest) = functions_in e ++ functions_in_exprs rest

  pub functions_in_items : Items → List FunctionTree
  functions_in_items NoItem = []
  functions_in_items (AnItem (One e) rest) = functions_in e ++ functions_in_items rest
  functions_in_items (AnItem (Splice e) rest) = functions_in e ++ functions_in_items rest
  functions_in_items (AnItem (Run characters) rest) = functions_in_items rest

  pub functions_in_fields : Fields → List FunctionTree
  functions_in_fields NoField = []
  functions_in_fields (AField label at e rest) = functions_in e ++ functions_in_fields rest

  pub functions_in_tails : Tails → List FunctionTree
  functions_in_tails NoTail = []
  functions_in_tails (ATail (Operand op e) rest) = functions_in e ++ functions_in_tails rest
  functions_in_tails (ATail (Without label) rest) = functions_in_tails rest
  functions_in_tails (ATail (Select label) rest) = functions_in_tails rest

  pub functions_in_branches : Branches → List FunctionTree
  functions_in_branches NoBranch = []
  functions_in_branches (ABranch pattern body rest) =
      functions_in body ++ functions_in_branches rest

  -- those that stand in the branches of a function
  pub functions_within : FunctionTree → List FunctionTree
  functions_within (function at name name_at interface branches) = functions_in_branches branches

abbrev pub within_all : List FunctionTree → List FunctionTree
within_all [] = []
within_all (f ∷ rest) = functions_within f ++ within_all rest

-- all functions of a program, those that are declared first
abbrev pub all_functions : Program → List FunctionTree
all_functions program = program.functions ++ within_all program.functions

-- the first of some functions whose word `fun` stands at this place
abbrev pub first_at : List FunctionTree → (at : ℕ) → Option FunctionTree
first_at [] at = None
first_at (f ∷ rest) at = if place_of f == at then Some f else first_at rest at

abbrev pub function_at : Program → (at : ℕ) → Option FunctionTree
function_at program at = first_at (all_functions program) at

-- the place of the first of some functions that has this name
abbrev pub has_name : Name → FunctionTree → Bool
has_name name (function at None name_at interface branches) = false
has_name name (function at (Some own) name_at interface branches) = bytes_eq own name

abbrev pub first_named : List FunctionTree → Name → Option ℕ
first_named [] name = None
first_named (f ∷ rest) name = if has_name name f then Some (place_of f) else first_named rest name

abbrev pub declared_at : Program → Name → Option ℕ
declared_at program name = first_named program.functions name

-- no two of some functions stand at one place
abbrev pub PlacesDiffer : List FunctionTree → Type 0
PlacesDiffer [] = Unit {0}
PlacesDiffer (f ∷ rest) = AllOf (λ other. place_of f ≢ place_of other) rest × PlacesDiffer rest
