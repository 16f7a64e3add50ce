-- The trees that are found in a well made program are well made.
use Rattle.std.proofs.Common.{ℕ, Bool, true, false, List, [], ◌∷◌, ◌++◌}
use Rattle.cd_syntax.specs.TypeTree.{Tree}
use Rattle.cd_syntax.specs.WellMadePattern.{IsWellMadePattern}
use Rattle.cd_program.specs.Expr as form
use Rattle.cd_program.specs.Expr.{Expr, expr, Kind, Exprs, NoExpr, AnExpr, Items, NoItem, AnItem}
use Rattle.cd_program.specs.Expr.{Item, One, Splice, Run}
use Rattle.cd_program.specs.Expr.{Fields, NoField, AField, Tails, NoTail, ATail, Tail, Operand}
use Rattle.cd_program.specs.Expr.{Without, Select}
use Rattle.cd_program.specs.Expr.{Branches, NoBranch, ABranch, FunctionTree, function, Signature}
use Rattle.cd_program.specs.Expr.{Program}
use Rattle.cd_program.specs.WellMade.{AreWellMadeSignatures, IsWellMadeExpr, IsWellMadeExprKind}
use Rattle.cd_program.specs.WellMade.{AreWellMadeExprs}
use Rattle.cd_program.specs.WellMade.{AreWellMadeItems, AreWellMadeExprFields}
use Rattle.cd_program.specs.WellMade.{AreWellMadeTails}
use Rattle.cd_program.specs.WellMade.{AreWellMadeBranches, IsWellMadeFunction}
use Rattle.cd_program.specs.WellMade.{AreWellMadeFunctions}
use Rattle.cd_program.specs.WellMade.{IsWellMadeProgram}
use Rattle.cd_model.specs.AllOf.{AllOf}
use Rattle.cd_resolve.proofs.TypesArePatterns.{type_is_pattern}
use Rattle.cd_variables.specs.Occurrences.{Occurrence}
use Rattle.cd_names.specs.ProgramFaults.{Seen, is_seen, names_of, with_name, all_functions}
use Rattle.cd_names.specs.ProgramFaults.{declared_names}
use Rattle.cd_names.specs.Inner.FindingInPrograms.{Found, nothing, with_tree, with_pattern}
use Rattle.cd_names.specs.Inner.FindingInPrograms.{with_types, met, reported_if}
use Rattle.cd_names.specs.Inner.FindingInPrograms.{labels_of, again, main_found, found_in_expr}
use Rattle.cd_names.specs.Inner.FindingInPrograms.{found_in_kind}
use Rattle.cd_names.specs.Inner.FindingInPrograms.{found_in_exprs, found_in_items}
use Rattle.cd_names.specs.Inner.FindingInPrograms.{found_in_fields}
use Rattle.cd_names.specs.Inner.FindingInPrograms.{found_in_tails, found_in_branches}
use Rattle.cd_names.specs.Inner.FindingInPrograms.{found_in_function}
use Rattle.cd_names.specs.Inner.FindingInPrograms.{found_in_functions, found_in_program}
use Rattle.cd_names.proofs.Covering.{all_of_both}

abbrev AreMade : Found → Type 0
AreMade found = AllOf IsWellMadePattern found.trees

one_more : (trees : List Tree) (t : Tree) → AllOf IsWellMadePattern trees → IsWellMadePattern t
    → AllOf IsWellMadePattern (trees ++ t ∷ [])
one_more trees t made one = (all_of_both IsWellMadePattern trees (t ∷ [])).1 (made, (one, tt))

made_types : (arrows : List Signature) (s : Found) → AreWellMadeSignatures arrows → AreMade s
    → AreMade (with_types arrows s)
made_types [] s well made = made
made_types (arrow ∷ arrows) s well made =
    made_types arrows (with_tree arrow.gives (with_tree arrow.takes s)) well.2
    (one_more (with_tree arrow.takes s).trees arrow.gives
    (one_more s.trees arrow.takes made (type_is_pattern arrow.takes well.0))
    (type_is_pattern arrow.gives well.1))

made_met : (seen : Bool) (name : List ℕ) (at : ℕ) (s : Found) → AreMade s
    → AreMade (met seen name at s)
made_met true name at s made = made
made_met false name at s made = made

made_reported_if : (before : Bool) (name : List ℕ) (at : ℕ) (s : Found) → AreMade s
    → AreMade (reported_if before name at s)
made_reported_if true name at s made = made
made_reported_if false name at s made = made

made_again : (all : List Occurrence) (before : List (List ℕ)) (s : Found) → AreMade s
    → AreMade (again before all s)
made_again [] before s made = made
made_again (o ∷ rest) before s made = made_again rest (before ++ o.name ∷ [])
    (reported_if (is_seen before o.name) o.name o.at s)
    (made_reported_if (is_seen before o.name) o.name o.at s made)

mutual
  made_expr : (seen : Seen) (e : Expr) (s : Found) → IsWellMadeExpr e → AreMade s
      → AreMade (found_in_expr seen e s)
  made_expr seen (expr span kind) s well made = made_kind seen span.from kind s well made

  made_kind : (seen : Seen) (at : ℕ) (kind : Kind) (s : Found) → IsWellMadeExprKind kind → AreMade s
      → AreMade (found_in_kind seen at kind s)
  made_kind seen at (form.Constant constant) s well made = made
  made_kind seen at (form.Variable name) s well made = made_met (is_seen seen name) name at s made
  made_kind seen at (form.Tuple exprs) s well made = made_exprs seen exprs s well.1 made
  made_kind seen at (form.Sequence items) s well made = made_items seen items s well made
  made_kind seen at (form.Record fields) s well made =
      made_fields seen fields (again [] (labels_of fields) s) well
      (made_again (labels_of fields) [] s made)
  made_kind seen at (form.Xml tag attributes content) s well made =
      made_expr seen content (found_in_expr seen attributes (found_in_expr seen tag s)) well.2
      (made_expr seen attributes (found_in_expr seen tag s) well.1
      (made_expr seen tag s well.0 made))
  made_kind seen at (form.Function f) s well made = made_function seen f s well made
  made_kind seen at (form.Apply exprs) s well made = made_exprs seen exprs s well.1 made
  made_kind seen at (form.Match value branches) s well made = made_branches seen branches
      (found_in_expr seen value s)
      well.2 (made_expr seen value s well.0 made)
  made_kind seen at (form.Try value branches) s well made = made_branches seen branches
      (found_in_expr seen value s)
      well.2 (made_expr seen value s well.0 made)
  made_kind seen at (form.Map value branches) s well made = made_branches seen branches
      (found_in_expr seen value s)
      well.2 (made_expr seen value s well.0 made)
  made_kind seen at (form.Transform value branches) s well made =
      made_branches seen branches (found_in_expr seen value s) well.2
      (made_expr seen value s well.0 made)
  made_kind seen at (form.Let pattern value rest) s well made = made_expr (names_of pattern ++ seen)
      rest
      (with_pattern pattern (found_in_expr seen value s)) well.2
      (one_more (found_in_expr seen value s).trees pattern (made_expr seen value s well.1 made)
      well.0)
  made_kind seen at (form.If condition then_one else_one) s well made =
      made_expr seen else_one (found_in_expr seen then_one (found_in_expr seen condition s)) well.2
      (made_expr seen then_one (found_in_expr seen condition s) well.1
      (made_expr seen condition s well.0 made))
  made_kind seen at (form.Chain first tails) s well made =
      made_tails seen tails (found_in_expr seen first s)
      well.2 (made_expr seen first s well.0 made)
  made_kind seen at (form.Call word e) s well made = made_expr seen e s well made

  made_exprs : (seen : Seen) (exprs : Exprs) (s : Found) → AreWellMadeExprs exprs → AreMade s
      → AreMade (found_in_exprs seen exprs s)
  made_exprs seen NoExpr s well made = made
  made_exprs seen (AnExpr first rest) s well made =
      made_exprs seen rest (found_in_expr seen first s) well.1
      (made_expr seen first s well.0 made)

  made_items : (seen : Seen) (items : Items) (s : Found) → AreWellMadeItems items → AreMade s
      → AreMade (found_in_items seen items s)
  made_items seen NoItem s well made = made
  made_items seen (AnItem (One e) rest) s well made = made_items seen rest (found_in_expr seen e s)
      well.1
      (made_expr seen e s well.0 made)
  made_items seen (AnItem (Splice e) rest) s well made =
      made_items seen rest (found_in_expr seen e s) well.1
      (made_expr seen e s well.0 made)
  made_items seen (AnItem (Run characters) rest) s well made = made_items seen rest s well.1 made

  made_fields : (seen : Seen) (fields : Fields) (s : Found) → AreWellMadeExprFields fields
      → AreMade s
      → AreMade (found_in_fields seen fields s)
  made_fields seen NoField s well made = made
  made_fields seen (AField label at e rest) s well made =
      made_fields seen rest (found_in_expr seen e s) well.2
      (made_expr seen e s well.1 made)

  made_tails : (seen : Seen) (tails : Tails) (s : Found) → AreWellMadeTails tails → AreMade s
      → AreMade (found_in_tails seen tails s)
  made_tails seen NoTail s well made = made
  made_tails seen (ATail (Operand op e) rest) s well made =
      made_tails seen rest (found_in_expr seen e s) well.1
      (made_expr seen e s well.0 made)
  made_tails seen (ATail (Without label) rest) s well made = made_tails seen rest s well.1 made
  made_tails seen (ATail (Select label) rest) s well made = made_tails seen rest s well.1 made

  made_branches : (seen : Seen) (branches : Branches) (s : Found) → AreWellMadeBranches branches
      → AreMade s
      → AreMade (found_in_branches seen branches s)
  made_branches seen NoBranch s well made = made
  made_branches seen (ABranch pattern body rest) s well made = made_branches seen rest
      (found_in_expr (names_of pattern ++ seen) body (with_pattern pattern s)) well.2
      (made_expr (names_of pattern ++ seen) body (with_pattern pattern s) well.1
      (one_more s.trees pattern made well.0))

  made_function : (seen : Seen) (f : FunctionTree) (s : Found) → IsWellMadeFunction f → AreMade s
      → AreMade (found_in_function seen f s)
  made_function seen (function at name name_at interface branches) s well made =
      made_branches (with_name name seen) branches (with_types interface s) well.4
      (made_types interface s well.2 made)

made_functions : (seen : Seen) (all : List FunctionTree) (s : Found) → AreWellMadeFunctions all
    → AreMade s
    → AreMade (found_in_functions seen all s)
made_functions seen [] s well made = made
made_functions seen (first ∷ rest) s well made =
    made_functions seen rest (found_in_function seen first s) well.2
    (made_function seen first s well.1 made)

made_main : (seen : Bool) (end : ℕ) (s : Found) → AreMade s → AreMade (main_found seen end s)
made_main true end s made = made
made_main false end s made = made

pub made_program : (program : Program) → IsWellMadeProgram program
    → AllOf IsWellMadePattern (found_in_program program).trees
made_program program well = made_functions (all_functions program) program.functions _ well.1
    (made_main _ program.end (again [] (declared_names program.functions) nothing)
    (made_again (declared_names program.functions) [] nothing tt))
