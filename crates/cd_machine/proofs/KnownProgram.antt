-- The functions of a program that is well made are known, where its patterns have a fact.
use Rattle.std.proofs.Common.{◌≡◌, ◌==◌, inl, inr, ℕ, Bool, true, false, List, [], ◌∷◌, ◌++◌, Some, if◌then◌else◌, refl, subst}
use Rattle.std.proofs.lemmas.Option.{same_Some, none-some}
use Rattle.cd_syntax.specs.TypeTree.{Tree}
use Rattle.cd_model.specs.AllOf.{AllOf, AnyOf}
use Rattle.cd_model.proofs.Covered.{each_parts, each_both}
use Rattle.cd_program.specs.Expr as form
use Rattle.cd_program.specs.Expr.{Expr, expr, Kind, Exprs, NoExpr, AnExpr, Items, NoItem, AnItem, One, Splice, Fields, Tails, NoTail, ATail, Operand, Without, Select}
use Rattle.cd_program.specs.Expr.{Branches, NoBranch, ABranch, FunctionTree, function, Program}
use Rattle.cd_program.specs.WellMade.{IsWellMadeExpr, IsWellMadeExprKind, AreWellMadeExprs, AreWellMadeItems, AreWellMadeExprFields, AreWellMadeTails, AreWellMadeBranches}
use Rattle.cd_program.specs.WellMade.{IsWellMadeFunction, AreWellMadeFunctions, IsWellMadeProgram}
use Rattle.cd_evaluation.specs.Code.{place_of}
use Rattle.cd_evaluation.specs.ProgramFunctions.{functions_in, functions_in_kind, functions_in_exprs, functions_in_items, functions_in_fields, functions_in_tails}
use Rattle.cd_evaluation.specs.ProgramFunctions.{functions_in_branches, functions_within, within_all, all_functions, first_at, function_at}
use Rattle.cd_placed.specs.Patterns.{patterns_in, patterns_in_kind, patterns_in_exprs, patterns_in_items, patterns_in_fields, patterns_in_tails, patterns_in_branches}
use Rattle.cd_placed.specs.Patterns.{patterns_of_function, patterns_of_functions, all_patterns}
use Rattle.cd_resolved.specs.Parts.{IsPatternOf}
use Rattle.cd_code.specs.Compiled.{program_of}
use Rattle.cd_code.specs.declared.code.Code.{Code}
use Rattle.cd_machine.specs.Inner.CodeIn.{code_in, IsPatternIn}
use Rattle.cd_machine.specs.Inner.Known.{FunctionsAreKnown, IsKnown, KindIsKnown, AreKnown, ItemsAreKnown, FieldsAreKnown, TailsAreKnown, BranchesAreKnown, FunctionIsKnown}

module _ (Fact : Tree → Type 0) where
  -- each pattern of some has the fact
  abbrev Each : List Tree → Type 0
  Each = AllOf Fact

  -- what is known of two lists in turn
  abbrev front : (first second : List Tree) → Each (first ++ second) → Each first
  front first second each = (each_parts Fact first second each).0

  abbrev rest_of : (first second : List Tree) → Each (first ++ second) → Each second
  rest_of first second each = (each_parts Fact first second each).1

  mutual
    known : (e : Expr) → IsWellMadeExpr e → Each (patterns_in e) → IsKnown Fact e
    known (expr span kind) made each = known_kind kind made each

    known_kind : (kind : Kind) → IsWellMadeExprKind kind → Each (patterns_in_kind kind) → KindIsKnown Fact kind
    known_kind (form.Constant is) made each = made
    known_kind (form.Variable name) made each = tt
    known_kind (form.Tuple exprs) made each = known_exprs exprs made.1 each
    known_kind (form.Sequence items) made each = known_items items made each
    known_kind (form.Record fields) made each = known_fields fields made each
    known_kind (form.Xml tag attributes content) made each =
        let later = rest_of (patterns_in tag) (patterns_in attributes ++ patterns_in content) each in (
          known tag made.0 (front (patterns_in tag) (patterns_in attributes ++ patterns_in content) each),
          known attributes made.1 (front (patterns_in attributes) (patterns_in content) later),
          known content made.2 (rest_of (patterns_in attributes) (patterns_in content) later),
        )
    known_kind (form.Function f) made each = known_function f made each
    known_kind (form.Apply exprs) made each = known_exprs exprs made.1 each
    known_kind (form.Match e branches) made each = (
      known e made.0 (front (patterns_in e) (patterns_in_branches branches) each),
      known_branches branches made.2 (rest_of (patterns_in e) (patterns_in_branches branches) each),
    )
    known_kind (form.Try e branches) made each = (
      known e made.0 (front (patterns_in e) (patterns_in_branches branches) each),
      known_branches branches made.2 (rest_of (patterns_in e) (patterns_in_branches branches) each),
    )
    known_kind (form.Map e branches) made each = (
      known e made.0 (front (patterns_in e) (patterns_in_branches branches) each),
      known_branches branches made.2 (rest_of (patterns_in e) (patterns_in_branches branches) each),
    )
    known_kind (form.Transform e branches) made each = (
      known e made.0 (front (patterns_in e) (patterns_in_branches branches) each),
      known_branches branches made.2 (rest_of (patterns_in e) (patterns_in_branches branches) each),
    )
    known_kind (form.Let pattern e rest) made each = (
      each.0,
      known e made.1 (front (patterns_in e) (patterns_in rest) each.1),
      known rest made.2 (rest_of (patterns_in e) (patterns_in rest) each.1),
    )
    known_kind (form.If condition then_one else_one) made each =
        let later = rest_of (patterns_in condition) (patterns_in then_one ++ patterns_in else_one) each in (
          known condition made.0 (front (patterns_in condition) (patterns_in then_one ++ patterns_in else_one) each),
          known then_one made.1 (front (patterns_in then_one) (patterns_in else_one) later),
          known else_one made.2 (rest_of (patterns_in then_one) (patterns_in else_one) later),
        )
    known_kind (form.Chain first tails) made each = (
      known first made.0 (front (patterns_in first) (patterns_in_tails tails) each),
      known_tails tails made.2 (rest_of (patterns_in first) (patterns_in_tails tails) each),
    )
    known_kind (form.Call word e) made each = known e made each

    known_exprs : (exprs : Exprs) → AreWellMadeExprs exprs → Each (patterns_in_exprs exprs) → AreKnown Fact exprs
    known_exprs NoExpr made each = tt
    known_exprs (AnExpr e rest) made each = (
      known e made.0 (front (patterns_in e) (patterns_in_exprs rest) each),
      known_exprs rest made.1 (rest_of (patterns_in e) (patterns_in_exprs rest) each),
    )

    known_items : (items : Items) → AreWellMadeItems items → Each (patterns_in_items items) → ItemsAreKnown Fact items
    known_items NoItem made each = tt
    known_items (AnItem (One e) rest) made each = (
      known e made.0 (front (patterns_in e) (patterns_in_items rest) each),
      known_items rest made.1 (rest_of (patterns_in e) (patterns_in_items rest) each),
    )
    known_items (AnItem (Splice e) rest) made each = (
      known e made.0 (front (patterns_in e) (patterns_in_items rest) each),
      known_items rest made.1 (rest_of (patterns_in e) (patterns_in_items rest) each),
    )
    known_items (AnItem (form.Run characters) rest) made each = known_items rest made.1 each

    known_fields : (fields : Fields) → AreWellMadeExprFields fields → Each (patterns_in_fields fields) → FieldsAreKnown Fact fields
    known_fields form.NoField made each = tt
    known_fields (form.AField label at e rest) made each = (
      made.0,
      known e made.1 (front (patterns_in e) (patterns_in_fields rest) each),
      known_fields rest made.2 (rest_of (patterns_in e) (patterns_in_fields rest) each),
    )

    known_tails : (tails : Tails) → AreWellMadeTails tails → Each (patterns_in_tails tails) → TailsAreKnown Fact tails
    known_tails NoTail made each = tt
    known_tails (ATail (Operand is e) rest) made each = (
      known e made.0 (front (patterns_in e) (patterns_in_tails rest) each),
      known_tails rest made.1 (rest_of (patterns_in e) (patterns_in_tails rest) each),
    )
    known_tails (ATail (Without label) rest) made each = known_tails rest made.1 each
    known_tails (ATail (Select label) rest) made each = known_tails rest made.1 each

    known_branches : (branches : Branches) → AreWellMadeBranches branches → Each (patterns_in_branches branches) → BranchesAreKnown Fact branches
    known_branches NoBranch made each = tt
    known_branches (ABranch pattern body rest) made each = (
      each.0,
      known body made.1 (front (patterns_in body) (patterns_in_branches rest) each.1),
      known_branches rest made.2 (rest_of (patterns_in body) (patterns_in_branches rest) each.1),
    )

    known_function : (f : FunctionTree) → IsWellMadeFunction f → Each (patterns_of_function f) → FunctionIsKnown Fact f
    known_function (function at name name_at interface branches) made each = (made.0, known_branches branches made.4 each)

  -- the functions of what is known are known
  abbrev Functions : List FunctionTree → Type 0
  Functions = AllOf (FunctionIsKnown Fact)

  and_then : (first second : List FunctionTree) → Functions first → Functions second → Functions (first ++ second)
  and_then first second one other = each_both (FunctionIsKnown Fact) first second one other

  mutual
    within : (e : Expr) → IsKnown Fact e → Functions (functions_in e)
    within (expr span kind) is = within_kind kind is

    within_kind : (kind : Kind) → KindIsKnown Fact kind → Functions (functions_in_kind kind)
    within_kind (form.Constant constant) is = tt
    within_kind (form.Variable name) is = tt
    within_kind (form.Tuple exprs) is = within_exprs exprs is
    within_kind (form.Sequence items) is = within_items items is
    within_kind (form.Record fields) is = within_fields fields is
    within_kind (form.Xml tag attributes content) is = and_then (functions_in tag) (functions_in attributes ++ functions_in content) (within tag is.0)
        (and_then (functions_in attributes) (functions_in content) (within attributes is.1) (within content is.2))
    within_kind (form.Function f) is = (is, within_function f is)
    within_kind (form.Apply exprs) is = within_exprs exprs is
    within_kind (form.Match e branches) is = and_then (functions_in e) (functions_in_branches branches) (within e is.0) (within_branches branches is.1)
    within_kind (form.Try e branches) is = and_then (functions_in e) (functions_in_branches branches) (within e is.0) (within_branches branches is.1)
    within_kind (form.Map e branches) is = and_then (functions_in e) (functions_in_branches branches) (within e is.0) (within_branches branches is.1)
    within_kind (form.Transform e branches) is = and_then (functions_in e) (functions_in_branches branches) (within e is.0) (within_branches branches is.1)
    within_kind (form.Let pattern e rest) is = and_then (functions_in e) (functions_in rest) (within e is.1) (within rest is.2)
    within_kind (form.If condition then_one else_one) is = and_then (functions_in condition) (functions_in then_one ++ functions_in else_one) (within condition is.0)
        (and_then (functions_in then_one) (functions_in else_one) (within then_one is.1) (within else_one is.2))
    within_kind (form.Chain first tails) is = and_then (functions_in first) (functions_in_tails tails) (within first is.0) (within_tails tails is.1)
    within_kind (form.Call word e) is = within e is

    within_exprs : (exprs : Exprs) → AreKnown Fact exprs → Functions (functions_in_exprs exprs)
    within_exprs NoExpr is = tt
    within_exprs (AnExpr e rest) is = and_then (functions_in e) (functions_in_exprs rest) (within e is.0) (within_exprs rest is.1)

    within_items : (items : Items) → ItemsAreKnown Fact items → Functions (functions_in_items items)
    within_items NoItem is = tt
    within_items (AnItem (One e) rest) is = and_then (functions_in e) (functions_in_items rest) (within e is.0) (within_items rest is.1)
    within_items (AnItem (Splice e) rest) is = and_then (functions_in e) (functions_in_items rest) (within e is.0) (within_items rest is.1)
    within_items (AnItem (form.Run characters) rest) is = within_items rest is

    within_fields : (fields : Fields) → FieldsAreKnown Fact fields → Functions (functions_in_fields fields)
    within_fields form.NoField is = tt
    within_fields (form.AField label at e rest) is = and_then (functions_in e) (functions_in_fields rest) (within e is.1) (within_fields rest is.2)

    within_tails : (tails : Tails) → TailsAreKnown Fact tails → Functions (functions_in_tails tails)
    within_tails NoTail is = tt
    within_tails (ATail (Operand op e) rest) is = and_then (functions_in e) (functions_in_tails rest) (within e is.0) (within_tails rest is.1)
    within_tails (ATail (Without label) rest) is = within_tails rest is
    within_tails (ATail (Select label) rest) is = within_tails rest is

    within_branches : (branches : Branches) → BranchesAreKnown Fact branches → Functions (functions_in_branches branches)
    within_branches NoBranch is = tt
    within_branches (ABranch pattern body rest) is = and_then (functions_in body) (functions_in_branches rest) (within body is.1) (within_branches rest is.2)

    within_function : (f : FunctionTree) → FunctionIsKnown Fact f → Functions (functions_within f)
    within_function (function at name name_at interface branches) is = within_branches branches is.1

  declared : (functions : List FunctionTree) → AreWellMadeFunctions functions → Each (patterns_of_functions functions) → Functions functions
  declared [] made each = tt
  declared (f ∷ rest) made each = (
    known_function f made.1 (front (patterns_of_function f) (patterns_of_functions rest) each),
    declared rest made.2 (rest_of (patterns_of_function f) (patterns_of_functions rest) each),
  )

  inside : (functions : List FunctionTree) → Functions functions → Functions (within_all functions)
  inside [] are = tt
  inside (f ∷ rest) are = and_then (functions_within f) (within_all rest) (within_function f are.0) (inside rest are.1)

  -- the function that is found is one of them
  found_one : (functions : List FunctionTree) (at : ℕ) (f : FunctionTree) → Functions functions → first_at functions at ≡ Some f → FunctionIsKnown Fact f
  found_one [] at f are found = absurd (none-some f found)
  found_one (one ∷ rest) at f are found = by_place (place_of one == at) found (found_one rest at f are.1)
    where
      by_place : (c : Bool) → (if c then Some one else first_at rest at) ≡ Some f → (first_at rest at ≡ Some f → FunctionIsKnown Fact f)
          → FunctionIsKnown Fact f
      by_place true is later = subst (FunctionIsKnown Fact) (same_Some one f is) are.0
      by_place false is later = later is

  pub program_known : (program : Program) → IsWellMadeProgram program → Each (all_patterns program) → (at : ℕ) (f : FunctionTree)
      → function_at program at ≡ Some f → FunctionIsKnown Fact f
  program_known program made each at f found =
      let ones = declared program.functions made.1 each in
      found_one (all_functions program) at f (and_then program.functions (within_all program.functions) ones (inside program.functions ones)) found

-- each of some patterns is one of them
among : (some all : List Tree) → ((pattern : Tree) → AnyOf (λ one. one ≡ pattern) some → AnyOf (λ one. one ≡ pattern) all)
    → AllOf (λ pattern. AnyOf (λ one. one ≡ pattern) all) some
among [] all are = tt
among (first ∷ some) all are = (are first (inl refl), among some all (λ pattern is. are pattern (inr is)))

pub each_among : (all : List Tree) → AllOf (λ pattern. AnyOf (λ one. one ≡ pattern) all) all
each_among all = among all all (λ pattern is. is)

-- so are those of the code of a program that is well made
pub code_known : (code : Code) → IsWellMadeProgram (program_of code) → FunctionsAreKnown (IsPatternIn code) (code_in code)
unfolding code_in IsPatternIn
code_known code made = program_known (IsPatternOf (program_of code)) (program_of code) made (each_among (all_patterns (program_of code)))
