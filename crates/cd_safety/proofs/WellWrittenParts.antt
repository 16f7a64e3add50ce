-- An expression is well written where it is well made, and where its parts, its patterns and its functions are as is asked of each.
use Rattle.std.proofs.Common.{List, ◌++◌}
use Rattle.cd_syntax.specs.TypeTree.{Tree}
use Rattle.cd_model.specs.AllOf.{AllOf}
use Rattle.cd_model.specs.Scope.{Scope}
use Rattle.cd_model.proofs.Covered.{each_parts}
use Rattle.cd_program.specs.Expr.{Expr, expr, Kind, Constant, Variable, Tuple, Sequence, Record, Xml, Function, Apply, Match, Try, Map}
use Rattle.cd_program.specs.Expr.{Transform, Let}
use Rattle.cd_program.specs.Expr.{If, Chain, Call, Exprs, NoExpr, AnExpr, Items, NoItem, AnItem, One, Splice, Run as Letters, Fields}
use Rattle.cd_program.specs.Expr.{NoField, AField}
use Rattle.cd_program.specs.Expr.{Tails, NoTail, ATail, Operand, Without, Select, Branches, NoBranch, ABranch, FunctionTree, function}
use Rattle.cd_program.specs.WellMade.{HaveTwo, IsWellMadeExpr, IsWellMadeExprKind, AreWellMadeExprs, AreWellMadeItems}
use Rattle.cd_program.specs.WellMade.{AreWellMadeExprFields}
use Rattle.cd_program.specs.WellMade.{AreWellMadeTails, AreWellMadeBranches, IsWellMadeFunction}
use Rattle.cd_names.specs.Labels.{LabelsDiffer}
use Rattle.cd_evaluation.specs.ProgramFunctions.{functions_in, functions_in_kind, functions_in_exprs, functions_in_items}
use Rattle.cd_evaluation.specs.ProgramFunctions.{functions_in_fields}
use Rattle.cd_evaluation.specs.ProgramFunctions.{functions_in_tails, functions_in_branches, functions_within}
use Rattle.cd_safety.specs.KindsIn.{EachKind, KindsWithin, KindsOfExprs, KindsOfItems, KindsOfFields, KindsOfTails, KindsOfBranches}
use Rattle.cd_safety.specs.KindsIn.{KindsOfFunction}
use Rattle.cd_safety.specs.PatternsIn.{EachPattern, EachOfKind, EachOfExprs, EachOfItems, EachOfFields, EachOfTails, EachOfBranches}
use Rattle.cd_safety.specs.PatternsIn.{EachOfFunction}
use Rattle.cd_safety.specs.PatternTypes.{IsTypedPattern}
use Rattle.cd_safety.specs.TypedClosure.{CapturesItsNames, IsGoodPattern}
use Rattle.cd_safety.specs.WellWritten.{IsSoundKind, HasPart, AreWrittenOnce, IsWellWritten, KindIsWritten, ExprsAreWritten}
use Rattle.cd_safety.specs.WellWritten.{ItemsAreWritten, FieldsAreWritten, TailsAreWritten, BranchesAreWritten, FunctionIsWritten}

has_part : (exprs : Exprs) → HaveTwo exprs → HasPart exprs
has_part NoExpr two = two
has_part (AnExpr e rest) two = tt

written_once : (fields : Fields) → AreWellMadeExprFields fields → LabelsDiffer fields → AreWrittenOnce fields
written_once NoField made differ = tt
written_once (AField label at e rest) made differ = (made.0, differ.0, written_once rest made.2 differ.1)

module _ (scope : Scope) (OfFunction : FunctionTree → Type 0) where
  abbrev OfAll : List FunctionTree → Type 0
  OfAll = AllOf OfFunction

  abbrev OfPattern : Tree → Type 0
  OfPattern = IsGoodPattern scope

  abbrev Typed : Tree → Type 0
  Typed = IsTypedPattern scope

  abbrev Named : Tree → Type 0
  Named = CapturesItsNames scope

  parts : (first second : List FunctionTree) → OfAll (first ++ second) → OfAll first × OfAll second
  parts first second all = each_parts OfFunction first second all

  mutual
    expr_written : (e : Expr) → IsWellMadeExpr e → EachKind IsSoundKind e → EachPattern Typed e → EachPattern Named e
        → OfAll (functions_in e) → IsWellWritten OfPattern OfFunction e
    expr_written (expr span kind) made kinds typed named all = kind_written kind made kinds.0 kinds.1 typed named all

    kind_written : (kind : Kind) → IsWellMadeExprKind kind → IsSoundKind kind → KindsWithin IsSoundKind kind → EachOfKind Typed kind
        → EachOfKind Named kind → OfAll (functions_in_kind kind) → KindIsWritten OfPattern OfFunction kind
    kind_written (Constant is) made own kinds typed named all = own
    kind_written (Variable name) made own kinds typed named all = tt
    kind_written (Tuple exprs) made own kinds typed named all =
        (has_part exprs made.0, exprs_written exprs made.1 kinds typed named all)
    kind_written (Sequence items) made own kinds typed named all = (own, items_written items made kinds typed named all)
    kind_written (Record fields) made own kinds typed named all =
        (written_once fields made own, fields_written fields made kinds typed named all)
    kind_written (Xml tag attributes content) made own kinds typed named all =
        let first = parts (functions_in tag) (functions_in attributes ++ functions_in content) all in
        let rest = parts (functions_in attributes) (functions_in content) first.1 in (
          expr_written tag made.0 kinds.0 typed.0 named.0 first.0,
          expr_written attributes made.1 kinds.1 typed.1 named.1 rest.0,
          expr_written content made.2 kinds.2 typed.2 named.2 rest.1,
        )
    kind_written (Function f) made own kinds typed named all = (all.0, function_written f made kinds typed named all.1)
    kind_written (Apply exprs) made own kinds typed named all = exprs_written exprs made.1 kinds typed named all
    kind_written (Match e branches) made own kinds typed named all =
        let two = parts (functions_in e) (functions_in_branches branches) all in (
          expr_written e made.0 kinds.0 typed.0 named.0 two.0,
          branches_written branches made.2 kinds.1 typed.1 named.1 two.1,
        )
    kind_written (Try e branches) made own kinds typed named all =
        let two = parts (functions_in e) (functions_in_branches branches) all in (
          expr_written e made.0 kinds.0 typed.0 named.0 two.0,
          branches_written branches made.2 kinds.1 typed.1 named.1 two.1,
        )
    kind_written (Map e branches) made own kinds typed named all =
        let two = parts (functions_in e) (functions_in_branches branches) all in (
          expr_written e made.0 kinds.0 typed.0 named.0 two.0,
          branches_written branches made.2 kinds.1 typed.1 named.1 two.1,
        )
    kind_written (Transform e branches) made own kinds typed named all =
        let two = parts (functions_in e) (functions_in_branches branches) all in (
          expr_written e made.0 kinds.0 typed.0 named.0 two.0,
          branches_written branches made.2 kinds.1 typed.1 named.1 two.1,
        )
    kind_written (Let pattern e rest) made own kinds typed named all =
        let two = parts (functions_in e) (functions_in rest) all in (
          record { typed = typed.0; well_made = made.0; names = named.0 },
          expr_written e made.1 kinds.0 typed.1 named.1 two.0,
          expr_written rest made.2 kinds.1 typed.2 named.2 two.1,
        )
    kind_written (If condition then_one else_one) made own kinds typed named all =
        let first = parts (functions_in condition) (functions_in then_one ++ functions_in else_one) all in
        let rest = parts (functions_in then_one) (functions_in else_one) first.1 in (
          expr_written condition made.0 kinds.0 typed.0 named.0 first.0,
          expr_written then_one made.1 kinds.1 typed.1 named.1 rest.0,
          expr_written else_one made.2 kinds.2 typed.2 named.2 rest.1,
        )
    kind_written (Chain first tails) made own kinds typed named all =
        let two = parts (functions_in first) (functions_in_tails tails) all in (
          expr_written first made.0 kinds.0 typed.0 named.0 two.0,
          tails_written tails made.2 kinds.1 typed.1 named.1 two.1,
        )
    kind_written (Call word e) made own kinds typed named all = expr_written e made kinds typed named all

    exprs_written : (exprs : Exprs) → AreWellMadeExprs exprs → KindsOfExprs IsSoundKind exprs → EachOfExprs Typed exprs
        → EachOfExprs Named exprs → OfAll (functions_in_exprs exprs) → ExprsAreWritten OfPattern OfFunction exprs
    exprs_written NoExpr made kinds typed named all = tt
    exprs_written (AnExpr e rest) made kinds typed named all =
        let two = parts (functions_in e) (functions_in_exprs rest) all in (
          expr_written e made.0 kinds.0 typed.0 named.0 two.0,
          exprs_written rest made.1 kinds.1 typed.1 named.1 two.1,
        )

    items_written : (items : Items) → AreWellMadeItems items → KindsOfItems IsSoundKind items → EachOfItems Typed items
        → EachOfItems Named items → OfAll (functions_in_items items) → ItemsAreWritten OfPattern OfFunction items
    items_written NoItem made kinds typed named all = tt
    items_written (AnItem (One e) rest) made kinds typed named all =
        let two = parts (functions_in e) (functions_in_items rest) all in (
          expr_written e made.0 kinds.0 typed.0 named.0 two.0,
          items_written rest made.1 kinds.1 typed.1 named.1 two.1,
        )
    items_written (AnItem (Splice e) rest) made kinds typed named all =
        let two = parts (functions_in e) (functions_in_items rest) all in (
          expr_written e made.0 kinds.0 typed.0 named.0 two.0,
          items_written rest made.1 kinds.1 typed.1 named.1 two.1,
        )
    items_written (AnItem (Letters characters) rest) made kinds typed named all = items_written rest made.1 kinds typed named all

    fields_written : (fields : Fields) → AreWellMadeExprFields fields → KindsOfFields IsSoundKind fields → EachOfFields Typed fields
        → EachOfFields Named fields → OfAll (functions_in_fields fields) → FieldsAreWritten OfPattern OfFunction fields
    fields_written NoField made kinds typed named all = tt
    fields_written (AField label at e rest) made kinds typed named all =
        let two = parts (functions_in e) (functions_in_fields rest) all in (
          expr_written e made.1 kinds.0 typed.0 named.0 two.0,
          fields_written rest made.2 kinds.1 typed.1 named.1 two.1,
        )

    tails_written : (tails : Tails) → AreWellMadeTails tails → KindsOfTails IsSoundKind tails → EachOfTails Typed tails
        → EachOfTails Named tails → OfAll (functions_in_tails tails) → TailsAreWritten OfPattern OfFunction tails
    tails_written NoTail made kinds typed named all = tt
    tails_written (ATail (Operand op e) rest) made kinds typed named all =
        let two = parts (functions_in e) (functions_in_tails rest) all in (
          expr_written e made.0 kinds.0 typed.0 named.0 two.0,
          tails_written rest made.1 kinds.1 typed.1 named.1 two.1,
        )
    tails_written (ATail (Without label) rest) made kinds typed named all = tails_written rest made.1 kinds typed named all
    tails_written (ATail (Select label) rest) made kinds typed named all = tails_written rest made.1 kinds typed named all

    branches_written : (branches : Branches) → AreWellMadeBranches branches → KindsOfBranches IsSoundKind branches
        → EachOfBranches Typed branches → EachOfBranches Named branches → OfAll (functions_in_branches branches)
        → BranchesAreWritten OfPattern OfFunction branches
    branches_written NoBranch made kinds typed named all = tt
    branches_written (ABranch pattern body rest) made kinds typed named all =
        let two = parts (functions_in body) (functions_in_branches rest) all in (
          record { typed = typed.0; well_made = made.0; names = named.0 },
          expr_written body made.1 kinds.0 typed.1 named.1 two.0,
          branches_written rest made.2 kinds.1 typed.2 named.2 two.1,
        )

    pub function_written : (f : FunctionTree) → IsWellMadeFunction f → KindsOfFunction IsSoundKind f → EachOfFunction Typed f
        → EachOfFunction Named f → OfAll (functions_within f) → FunctionIsWritten OfPattern OfFunction f
    function_written (function at name name_at interface branches) made kinds typed named all =
        (made.0, branches_written branches made.4 kinds typed named all)
