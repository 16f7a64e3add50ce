-- An expression that is typed and well written is safe: it is never stuck, gives a value in its type, and raises data alone.
use Rattle.cd_syntax.specs.TypeTree.{Tree}
use Rattle.cd_model.specs.Interfaces.{Interfaces}
use Rattle.cd_model.specs.Scope.{Scope}
use Rattle.cd_model.specs.Thing.{Thing}
use Rattle.cd_program.specs.Expr.{Expr, expr, Kind, Constant, Variable, Tuple, Sequence, Record, Xml, Function, Apply, Match, Try}
use Rattle.cd_program.specs.Expr.{Map, Transform, Let, If, Chain, Call, Exprs, NoExpr, AnExpr, Items, NoItem, AnItem, One, Splice}
use Rattle.cd_program.specs.Expr.{Run as Letters, Fields, NoField, AField}
use Rattle.cd_program.specs.Expr.{Tails, NoTail, ATail, Operand, Without, Select, Branches, NoBranch, ABranch, FunctionTree}
use Rattle.cd_typing.specs.Kept.{Kept}
use Rattle.cd_evaluation.specs.Code.{Code}
use Rattle.cd_evaluation.specs.Runs.{Run}
use Rattle.cd_safety.specs.TypedClosure.{IsGoodPattern, IsGoodFunction}
use Rattle.cd_safety.specs.Ways.{Way}
use Rattle.cd_safety.specs.WellWritten.{IsWellWritten, KindIsWritten, ExprsAreWritten, ItemsAreWritten, FieldsAreWritten, TailsAreWritten}
use Rattle.cd_safety.specs.WellWritten.{BranchesAreWritten}
use Rattle.cd_safety.proofs.SafeBranches.{match_safe, try_safe, map_safe, transform_safe, let_safe}
use Rattle.cd_safety.proofs.SafeNames.{IsSafeCode}
use Rattle.cd_safety.proofs.SafeOperands.{constant_safe, variable_safe, tuple_safe, sequence_safe, record_safe, xml_safe, function_safe}
use Rattle.cd_safety.proofs.SafeOperations.{if_safe, chain_safe, word_safe, apply_safe}
use Rattle.cd_safety.proofs.SafeParts.{ExprIsSafe, KindIsSafe, ExprsAreSafe, ItemsAreSafe, FieldsAreSafe, TailsAreSafe}
use Rattle.cd_safety.proofs.SafeParts.{BranchesAreSafe, CallIsSafe}

module _ (kept : Kept) (scope : Scope) (code : Code) (interfaces : Interfaces) (given : IsSafeCode kept scope code interfaces)
    (call : Way → Thing → Thing → Run)
    (call_is : CallIsSafe kept scope code interfaces call) where
  abbrev OfPattern : Tree → Type 0
  OfPattern = IsGoodPattern scope

  abbrev OfFunction : FunctionTree → Type 0
  OfFunction = IsGoodFunction scope code

  mutual
    pub expr_safe : (e : Expr) → IsWellWritten OfPattern OfFunction e → ExprIsSafe kept scope code interfaces call e
    expr_safe (expr span kind) written = kind_safe kind written

    kind_safe : (kind : Kind) → KindIsWritten OfPattern OfFunction kind → KindIsSafe kept scope code interfaces call kind
    kind_safe (Constant is) written = constant_safe kept scope code interfaces given call is written
    kind_safe (Variable name) written = variable_safe kept scope code interfaces given call name
    kind_safe (Tuple exprs) written = tuple_safe kept scope code interfaces given call exprs written.0 (exprs_safe exprs written.1)
    kind_safe (Sequence all) written = sequence_safe kept scope code interfaces given call all written.0 (items_safe all written.1)
    kind_safe (Record fields) written = record_safe kept scope code interfaces given call fields written.0 (fields_safe fields written.1)
    kind_safe (Xml tag attributes content) written = xml_safe kept scope code interfaces given call tag attributes content
        (expr_safe tag written.0) (expr_safe attributes written.1) (expr_safe content written.2)
    kind_safe (Function f) written = function_safe kept scope code interfaces given call f written.0 written.1
    kind_safe (Apply exprs) written = apply_safe kept scope code interfaces call call_is exprs (exprs_safe exprs written)
    kind_safe (Match e branches) written =
        match_safe kept scope code interfaces given call e branches (expr_safe e written.0) (branches_safe branches written.1)
    kind_safe (Try body branches) written =
        try_safe kept scope code interfaces given call body branches (expr_safe body written.0) (branches_safe branches written.1)
    kind_safe (Map e branches) written =
        map_safe kept scope code interfaces given call e branches (expr_safe e written.0) (branches_safe branches written.1)
    kind_safe (Transform e branches) written =
        transform_safe kept scope code interfaces given call e branches (expr_safe e written.0) (branches_safe branches written.1)
    kind_safe (Let pattern e rest) written =
        let_safe kept scope code interfaces given call pattern written.0 e rest (expr_safe e written.1) (expr_safe rest written.2)
    kind_safe (If condition then_one else_one) written = if_safe kept scope code interfaces call condition then_one else_one
        (expr_safe condition written.0) (expr_safe then_one written.1) (expr_safe else_one written.2)
    kind_safe (Chain first tails) written =
        chain_safe kept scope code interfaces call first tails (expr_safe first written.0) (tails_safe tails written.1)
    kind_safe (Call word e) written = word_safe kept scope code interfaces call word e (expr_safe e written)

    exprs_safe : (exprs : Exprs) → ExprsAreWritten OfPattern OfFunction exprs → ExprsAreSafe kept scope code interfaces call exprs
    exprs_safe NoExpr written = tt
    exprs_safe (AnExpr e rest) written = (expr_safe e written.0, exprs_safe rest written.1)

    items_safe : (all : Items) → ItemsAreWritten OfPattern OfFunction all → ItemsAreSafe kept scope code interfaces call all
    items_safe NoItem written = tt
    items_safe (AnItem (One e) rest) written = (expr_safe e written.0, items_safe rest written.1)
    items_safe (AnItem (Splice e) rest) written = (expr_safe e written.0, items_safe rest written.1)
    items_safe (AnItem (Letters characters) rest) written = items_safe rest written

    fields_safe : (fields : Fields) → FieldsAreWritten OfPattern OfFunction fields → FieldsAreSafe kept scope code interfaces call fields
    fields_safe NoField written = tt
    fields_safe (AField label at e rest) written = (expr_safe e written.0, fields_safe rest written.1)

    tails_safe : (tails : Tails) → TailsAreWritten OfPattern OfFunction tails → TailsAreSafe kept scope code interfaces call tails
    tails_safe NoTail written = tt
    tails_safe (ATail (Operand op e) rest) written = (expr_safe e written.0, tails_safe rest written.1)
    tails_safe (ATail (Without label) rest) written = tails_safe rest written
    tails_safe (ATail (Select label) rest) written = tails_safe rest written

    pub branches_safe : (branches : Branches) → BranchesAreWritten OfPattern OfFunction branches
        → BranchesAreSafe kept scope code interfaces call branches
    branches_safe NoBranch written = tt
    branches_safe (ABranch pattern body rest) written = (written.0, expr_safe body written.1, branches_safe rest written.2)
