-- Where expressions of the code begin.
use Rattle.std.proofs.Common.{◌≡◌, ap}
use Rattle.cd_program.specs.Expr.{expr}
use Rattle.cd_program.specs.PlainExpr.{plain, plain_kind}
use Rattle.cd_program.specs.PlainExpr.{kind_layer, item_layer, tail_layer, branch_layer, branches_layer, expr_layer}
use Rattle.cd_program.specs.PlainExpr.{exprs_layer, field_layer, fields_layer, function_layer, items_layer, tails_layer}
use Rattle.cd_program.specs.declared.expr.Expr.{Expr as CodeExpr, fold_out-Expr}
use Rattle.cd_program.specs.declared.expr.ExprKind.TheViews.{out-Expr}
use Rattle.cd_least.specs.Misses.{place_of}

pub expr_is : (e : CodeExpr) → plain e ≡ expr (out-Expr e).span (plain_kind (out-Expr e).kind)
expr_is = fold_out-Expr _ _ _ _ _ _ _ _ _ _ _ _
    kind_layer item_layer tail_layer branch_layer branches_layer expr_layer exprs_layer field_layer fields_layer
    function_layer items_layer tails_layer

pub place_is : (e : CodeExpr) → place_of (plain e) ≡ (out-Expr e).span.from
place_is e = ap place_of (expr_is e)
