-- What is wrong with the names of a program, and where.
use Rattle.std.specs.Prelude.{◌≡◌, ℕ, Bool, false, List, [], ◌∷◌, ◌++◌, map, Option, Some}
use Rattle.std.specs.Prelude.{None, codes, bytes_eq, ◌⊎◌}
use Rattle.std.specs.List.{list_any}
use Rattle.cd_syntax.specs.Name.{Name}
use Rattle.cd_syntax.specs.TypeTree.{Tree, Declarations}
use Rattle.cd_syntax.specs.declared.tokens.Span.{Span}
use Rattle.cd_program.specs.Expr.{Expr, expr, Kind, Variable, Tuple, Sequence, Record, Xml}
use Rattle.cd_program.specs.Expr.{Function, Apply, Match, Try, Map, Transform, Let, If, Chain, Call}
use Rattle.cd_program.specs.Expr.{Exprs, NoExpr, AnExpr, Items, NoItem, AnItem, One, Splice, Run}
use Rattle.cd_program.specs.Expr.{Fields, NoField, AField, Tails, NoTail, ATail, Operand, Without}
use Rattle.cd_program.specs.Expr.{Select, Branches, NoBranch, ABranch, FunctionTree, function}
use Rattle.cd_program.specs.Expr.{Signature, Program}
use Rattle.cd_resolve.specs.Faults.{Fault, IsFaultOfType, IsFaultOfDeclarations}
use Rattle.cd_resolve.specs.declared.fault.NameFault.TheVariants.{Unknown, Twice, NoMain}
use Rattle.cd_variables.specs.Occurrences.{Occurrence, bound}
use Rattle.cd_variables.specs.VariableFaults.{IsVariableFault, IsOneIn}

-- the names that an expression sees: of functions and of variables
abbrev pub Seen : Type 0
Seen = List Name

abbrev pub is_seen : Seen → Name → Bool
is_seen names name = list_any (bytes_eq name) names

-- the names that a pattern binds
abbrev pub names_of : Tree → Seen
names_of pattern = map (λ occurrence. occurrence.name) (bound pattern)

-- a fault of a pattern, of its types or of its variables
abbrev pub IsFaultOfPattern : Declarations → Tree → Fault → Type 0
IsFaultOfPattern types pattern fault = IsFaultOfType types pattern fault
    ⊎ IsVariableFault pattern fault

-- an expression that stands directly in another one, and the names that it sees
pub record Part : Type 0 where
  pub seen : Seen
  pub expr : Expr

abbrev pub part : Seen → Expr → Part
part seen e = record { seen = seen; expr = e }

abbrev pub all_exprs : Exprs → List Expr
all_exprs NoExpr = []
all_exprs (AnExpr first rest) = first ∷ all_exprs rest

abbrev pub item_exprs : Items → List Expr
item_exprs NoItem = []
item_exprs (AnItem (One e) rest) = e ∷ item_exprs rest
item_exprs (AnItem (Splice e) rest) = e ∷ item_exprs rest
item_exprs (AnItem (Run characters) rest) = item_exprs rest

abbrev pub field_exprs : Fields → List Expr
field_exprs NoField = []
field_exprs (AField label at e rest) = e ∷ field_exprs rest

abbrev pub operands : Tails → List Expr
operands NoTail = []
operands (ATail (Operand op e) rest) = e ∷ operands rest
operands (ATail (Without label) rest) = operands rest
operands (ATail (Select label) rest) = operands rest

-- the body of a branch also sees what its pattern binds
abbrev pub bodies : Seen → Branches → List Part
bodies seen NoBranch = []
bodies seen (ABranch pattern body rest) =
    part (names_of pattern ++ seen) body ∷ bodies seen rest

abbrev pub patterns : Branches → List Tree
patterns NoBranch = []
patterns (ABranch pattern body rest) = pattern ∷ patterns rest

-- and the body of a function with a name its name
abbrev pub with_name : Option Name → Seen → Seen
with_name None seen = seen
with_name (Some name) seen = name ∷ seen

abbrev pub function_bodies : Seen → FunctionTree → List Part
function_bodies seen (function at name name_at interface branches) =
    bodies (with_name name seen) branches

abbrev pub parts : Seen → Kind → List Part
parts seen (Tuple exprs) = map (part seen) (all_exprs exprs)
parts seen (Sequence items) = map (part seen) (item_exprs items)
parts seen (Record fields) = map (part seen) (field_exprs fields)
parts seen (Xml tag attributes content) =
    part seen tag ∷ part seen attributes ∷ part seen content ∷ []
parts seen (Function f) = function_bodies seen f
parts seen (Apply exprs) = map (part seen) (all_exprs exprs)
parts seen (Match value branches) = part seen value ∷ bodies seen branches
parts seen (Try value branches) = part seen value ∷ bodies seen branches
parts seen (Map value branches) = part seen value ∷ bodies seen branches
parts seen (Transform value branches) = part seen value ∷ bodies seen branches
parts seen (Let pattern value rest) =
    part seen value ∷ part (names_of pattern ++ seen) rest ∷ []
parts seen (If condition then_one else_one) =
    part seen condition ∷ part seen then_one ∷ part seen else_one ∷ []
parts seen (Chain first tails) = part seen first ∷ map (part seen) (operands tails)
parts seen (Call word e) = part seen e ∷ []
parts seen kind = []

-- the patterns that stand directly in an expression, and the types
abbrev pub function_patterns : FunctionTree → List Tree
function_patterns (function at name name_at interface branches) = patterns branches

abbrev pub arrow_types : List Signature → List Tree
arrow_types [] = []
arrow_types (arrow ∷ arrows) = arrow.takes ∷ arrow.gives ∷ arrow_types arrows

abbrev pub function_types : FunctionTree → List Tree
function_types (function at name name_at interface branches) = arrow_types interface

abbrev pub patterns_in : Kind → List Tree
patterns_in (Function f) = function_patterns f
patterns_in (Match value branches) = patterns branches
patterns_in (Try value branches) = patterns branches
patterns_in (Map value branches) = patterns branches
patterns_in (Transform value branches) = patterns branches
patterns_in (Let pattern value rest) = pattern ∷ []
patterns_in kind = []

abbrev pub types_in : Kind → List Tree
types_in (Function f) = function_types f
types_in kind = []

-- a label stands at this place, and at an earlier field of the same record
abbrev pub HasField : Name → (at : ℕ) → Fields → Type 0
HasField label at NoField = ⊥
HasField label at (AField name place e rest) = ((name ≡ label) × (place ≡ at))
    ⊎ HasField label at rest

abbrev pub LabelAgain : Name → (at : ℕ) → Fields → Type 0
LabelAgain label at NoField = ⊥
LabelAgain label at (AField name place e rest) = ((name ≡ label) × HasField label at rest)
    ⊎ LabelAgain label at rest

-- a fault of an expression that sees these types and these names
pub data IsFaultOfExpr (types : Declarations) : Seen → Expr → Fault → Type 0 where
  unknown : (seen : Seen) (span : Span) (name : Name) → is_seen seen name ≡ false
      → IsFaultOfExpr types seen (expr span (Variable name))
      (record { fault = Unknown; name = name; at = span.from })
  label_twice : (seen : Seen) (span : Span) (fields : Fields) (label : Name) (at : ℕ)
      → LabelAgain label at fields
      → IsFaultOfExpr types seen (expr span (Record fields))
      (record { fault = Twice; name = label; at = at })
  in_type : (seen : Seen) (span : Span) (kind : Kind) (t : Tree) (fault : Fault)
      → IsOneIn t (types_in kind) → IsFaultOfType types t fault
      → IsFaultOfExpr types seen (expr span kind) fault
  in_pattern : (seen : Seen) (span : Span) (kind : Kind) (pattern : Tree) (fault : Fault)
      → IsOneIn pattern (patterns_in kind) → IsFaultOfPattern types pattern fault
      → IsFaultOfExpr types seen (expr span kind) fault
  in_part : (seen inner : Seen) (span : Span) (kind : Kind) (e : Expr) (fault : Fault)
      → IsOneIn (part inner e) (parts seen kind) → IsFaultOfExpr types inner e fault
      → IsFaultOfExpr types seen (expr span kind) fault

-- a fault of a function that is declared, where these names are seen
pub data IsFaultOfFunction (types : Declarations) (seen : Seen) (f : FunctionTree)
    : Fault → Type 0 where
  in_type : (t : Tree) (fault : Fault) → IsOneIn t (function_types f)
      → IsFaultOfType types t fault → IsFaultOfFunction types seen f fault
  in_pattern : (pattern : Tree) (fault : Fault) → IsOneIn pattern (function_patterns f)
      → IsFaultOfPattern types pattern fault → IsFaultOfFunction types seen f fault
  in_body : (inner : Seen) (e : Expr) (fault : Fault)
      → IsOneIn (part inner e) (function_bodies seen f) → IsFaultOfExpr types inner e fault
      → IsFaultOfFunction types seen f fault

-- the functions that are declared: the name of each, and its place
abbrev pub declared_names : List FunctionTree → List Occurrence
declared_names [] = []
declared_names (function at None name_at interface branches ∷ rest) = declared_names rest
declared_names (function at (Some name) name_at interface branches ∷ rest) =
    record { name = name; at = name_at } ∷ declared_names rest

-- it is declared, and by its name another one before
abbrev pub DeclaredAgain : Occurrence → List Occurrence → Type 0
DeclaredAgain o [] = ⊥
DeclaredAgain o (first ∷ rest) = ((first.name ≡ o.name) × IsOneIn o rest) ⊎ DeclaredAgain o rest

abbrev pub all_functions : Program → Seen
all_functions program =
    map (λ occurrence. occurrence.name) (declared_names program.functions)

-- Of names that are declared twice uses mean the first. All functions see one another
pub data IsFaultOfProgram (program : Program) : Fault → Type 0 where
  in_types : (fault : Fault) → IsFaultOfDeclarations program.types fault
      → IsFaultOfProgram program fault
  declared_again : (o : Occurrence) → DeclaredAgain o (declared_names program.functions)
      → IsFaultOfProgram program (record { fault = Twice; name = o.name; at = o.at })
  in_function : (f : FunctionTree) (fault : Fault) → IsOneIn f program.functions
      → IsFaultOfFunction program.types (all_functions program) f fault
      → IsFaultOfProgram program fault
  no_main : is_seen (all_functions program) (codes "main") ≡ false
      → IsFaultOfProgram program (record { fault = NoMain; name = []; at = program.end })
