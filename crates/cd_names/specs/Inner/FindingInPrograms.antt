-- What a walk over a program finds: the faults of its names and variables, and the trees whose
-- types are to be looked at.
use Rattle.std.specs.Prelude.{ℕ, Bool, true, false, List, [], ◌∷◌, ◌++◌, map, codes}
use Rattle.cd_syntax.specs.Name.{Name}
use Rattle.cd_syntax.specs.TypeTree.{Tree}
use Rattle.cd_program.specs.Expr.{Expr, expr, Kind, Variable, Tuple, Sequence, Record, Xml}
use Rattle.cd_program.specs.Expr.{Function}
use Rattle.cd_program.specs.Expr.{Apply, Match, Try, Map, Transform, Let, If, Chain, Call, Exprs}
use Rattle.cd_program.specs.Expr.{NoExpr, AnExpr, Items, NoItem, AnItem, Item, One, Splice, Run}
use Rattle.cd_program.specs.Expr.{Fields}
use Rattle.cd_program.specs.Expr.{NoField, AField, Tails, NoTail, ATail, Tail, Operand, Without}
use Rattle.cd_program.specs.Expr.{Select}
use Rattle.cd_program.specs.Expr.{Branches, NoBranch, ABranch, FunctionTree, function, Signature}
use Rattle.cd_program.specs.Expr.{Program}
use Rattle.cd_resolve.specs.Faults.{Fault}
use Rattle.cd_resolve.specs.declared.fault.NameFault.{NameFault}
use Rattle.cd_resolve.specs.declared.fault.NameFault.TheVariants.{Unknown, Twice, NoMain}
use Rattle.cd_variables.specs.Occurrences.{Occurrence}
use Rattle.cd_names.specs.ProgramFaults.{Seen, is_seen, names_of, with_name, declared_names}
use Rattle.cd_names.specs.ProgramFaults.{all_functions}
use Rattle.cd_variables.specs.FindingVariables.{variable_faults}

pub record Found : Type 0 where
  pub faults : List Fault
  pub trees : List Tree

abbrev pub nothing : Found
nothing = record { faults = []; trees = [] }

abbrev pub reported : NameFault → Name → ℕ → Found → Found
reported fault name at found = record {
  faults = found.faults ++ record { fault = fault; name = name; at = at } ∷ [];
  trees = found.trees;
}

abbrev pub with_tree : Tree → Found → Found
with_tree t found = record { faults = found.faults; trees = found.trees ++ t ∷ [] }

abbrev pub with_pattern : Tree → Found → Found
with_pattern pattern found = record {
  faults = variable_faults pattern found.faults;
  trees = found.trees ++ pattern ∷ [];
}

abbrev pub with_types : List Signature → Found → Found
with_types [] found = found
with_types (arrow ∷ arrows) found =
    with_types arrows (with_tree arrow.gives (with_tree arrow.takes found))

-- a name is met at this place
abbrev pub met : (seen : Bool) → Name → ℕ → Found → Found
met true name at found = found
met false name at found = reported Unknown name at found

abbrev pub reported_if : (again : Bool) → Name → ℕ → Found → Found
reported_if true name at found = reported Twice name at found
reported_if false name at found = found

-- the occurrences of names that stand before, or are among these
abbrev pub again : List Name → List Occurrence → Found → Found
again before [] found = found
again before (o ∷ rest) found =
    again (before ++ o.name ∷ []) rest (reported_if (is_seen before o.name) o.name o.at found)

abbrev pub labels_of : Fields → List Occurrence
labels_of NoField = []
labels_of (AField label at e rest) = record { name = label; at = at } ∷ labels_of rest

-- the walk over an expression that sees these names
abbrev mutual
  pub found_in_expr : Seen → Expr → Found → Found
  found_in_expr seen (expr span kind) found = found_in_kind seen span.from kind found

  pub found_in_kind : Seen → ℕ → Kind → Found → Found
  found_in_kind seen at (Variable name) found = met (is_seen seen name) name at found
  found_in_kind seen at (Tuple exprs) found = found_in_exprs seen exprs found
  found_in_kind seen at (Sequence items) found = found_in_items seen items found
  found_in_kind seen at (Record fields) found =
      found_in_fields seen fields (again [] (labels_of fields) found)
  found_in_kind seen at (Xml tag attributes content) found = found_in_expr seen content
      (found_in_expr seen attributes (found_in_expr seen tag found))
  found_in_kind seen at (Function f) found = found_in_function seen f found
  found_in_kind seen at (Apply exprs) found = found_in_exprs seen exprs found
  found_in_kind seen at (Match value branches) found =
      found_in_branches seen branches (found_in_expr seen value found)
  found_in_kind seen at (Try value branches) found =
      found_in_branches seen branches (found_in_expr seen value found)
  found_in_kind seen at (Map value branches) found =
      found_in_branches seen branches (found_in_expr seen value found)
  found_in_kind seen at (Transform value branches) found =
      found_in_branches seen branches (found_in_expr seen value found)
  found_in_kind seen at (Let pattern value rest) found =
      found_in_expr (names_of pattern ++ seen) rest
      (with_pattern pattern (found_in_expr seen value found))
  found_in_kind seen at (If condition then_one else_one) found = found_in_expr seen else_one
      (found_in_expr seen then_one (found_in_expr seen condition found))
  found_in_kind seen at (Chain first tails) found =
      found_in_tails seen tails (found_in_expr seen first found)
  found_in_kind seen at (Call word e) found = found_in_expr seen e found
  found_in_kind seen at kind found = found

  pub found_in_exprs : Seen → Exprs → Found → Found
  found_in_exprs seen NoExpr found = found
  found_in_exprs seen (AnExpr first rest) found =
      found_in_exprs seen rest (found_in_expr seen first found)

  pub found_in_items : Seen → Items → Found → Found
  found_in_items seen NoItem found = found
  found_in_items seen (AnItem first rest) found =
      found_in_items seen rest (found_in_item seen first found)

  pub found_in_item : Seen → Item → Found → Found
  found_in_item seen (One e) found = found_in_expr seen e found
  found_in_item seen (Splice e) found = found_in_expr seen e found
  found_in_item seen (Run characters) found = found

  pub found_in_fields : Seen → Fields → Found → Found
  found_in_fields seen NoField found = found
  found_in_fields seen (AField label at e rest) found =
      found_in_fields seen rest (found_in_expr seen e found)

  pub found_in_tails : Seen → Tails → Found → Found
  found_in_tails seen NoTail found = found
  found_in_tails seen (ATail first rest) found =
      found_in_tails seen rest (found_in_tail seen first found)

  pub found_in_tail : Seen → Tail → Found → Found
  found_in_tail seen (Operand op e) found = found_in_expr seen e found
  found_in_tail seen (Without label) found = found
  found_in_tail seen (Select label) found = found

  pub found_in_branches : Seen → Branches → Found → Found
  found_in_branches seen NoBranch found = found
  found_in_branches seen (ABranch pattern body rest) found = found_in_branches seen rest
      (found_in_expr (names_of pattern ++ seen) body (with_pattern pattern found))

  pub found_in_function : Seen → FunctionTree → Found → Found
  found_in_function seen (function at name name_at interface branches) found =
      found_in_branches (with_name name seen) branches (with_types interface found)

abbrev pub names_declared : List FunctionTree → List Name
names_declared functions = map (λ occurrence. occurrence.name) (declared_names functions)

abbrev pub main_found : Bool → (end : ℕ) → Found → Found
main_found true end found = found
main_found false end found = reported NoMain [] end found

abbrev pub found_in_functions : Seen → List FunctionTree → Found → Found
found_in_functions seen [] found = found
found_in_functions seen (first ∷ rest) found =
    found_in_functions seen rest (found_in_function seen first found)

abbrev pub found_in_program : Program → Found
found_in_program program = found_in_functions (all_functions program) program.functions
    (main_found (is_seen (all_functions program) (codes "main")) program.end
    (again [] (declared_names program.functions) nothing))
