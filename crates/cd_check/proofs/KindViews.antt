-- What forms of expressions of the code are as plain data.
use Rattle.std.proofs.Common.{◌≡◌, ◌∙◌, ap}
use Rattle.cd_syntax.specs.Name.{Name}
use Rattle.cd_syntax.specs.declared.constant.Constant.{Constant as CodeConstant}
use Rattle.cd_program.specs.Expr.{Kind, Constant, Variable, Item, Tail, Branch, Branches, Expr, Exprs, Field}
use Rattle.cd_program.specs.Expr.{Fields, FunctionTree, Items, Tails}
use Rattle.cd_program.specs.PlainExpr.{plain, plain_kind, plain_item, plain_tail, plain_branch, plain_branches, plain_exprs}
use Rattle.cd_program.specs.PlainExpr.{plain_field, plain_fields, plain_function, plain_items, plain_tails}
use Rattle.cd_program.specs.PlainExpr.{kind_layer, item_layer, tail_layer, branch_layer, branches_layer, expr_layer}
use Rattle.cd_program.specs.PlainExpr.{exprs_layer, field_layer, fields_layer, function_layer, items_layer, tails_layer}
use Rattle.cd_program.specs.declared.expr.ExprKind.TheOpen as layer
use Rattle.cd_program.specs.declared.expr.ExprKind.{ExprKind as CodeKind, ExprKind-F, out-ExprKind, map-ExprKind, fold_out-ExprKind}
use Rattle.cd_program.specs.declared.expr.ExprKind.TheVariants as kind
use Rattle.cd_program.specs.declared.expr.Item.{Item as CodeItem}
use Rattle.cd_program.specs.declared.expr.Tail.{Tail as CodeTail}
use Rattle.cd_program.specs.declared.expr.Branch.{Branch as CodeBranch}
use Rattle.cd_program.specs.declared.expr.Branches.{Branches as CodeBranches}
use Rattle.cd_program.specs.declared.expr.Expr.{Expr as CodeExpr}
use Rattle.cd_program.specs.declared.expr.Exprs.{Exprs as CodeExprs}
use Rattle.cd_program.specs.declared.expr.FieldExpr.{FieldExpr as CodeField}
use Rattle.cd_program.specs.declared.expr.FieldExprs.{FieldExprs as CodeFields}
use Rattle.cd_program.specs.declared.expr.FunctionTree.{FunctionTree as CodeFunction}
use Rattle.cd_program.specs.declared.expr.Items.{Items as CodeItems}
use Rattle.cd_program.specs.declared.expr.Tails.{Tails as CodeTails}

kind_from : (is : CodeKind) (one : ExprKind-F CodeKind CodeItem CodeTail CodeBranch CodeBranches CodeExpr CodeExprs CodeField CodeFields
    CodeFunction CodeItems CodeTails) → out-ExprKind is ≡ one
    → plain_kind is ≡ kind_layer (map-ExprKind CodeKind CodeItem CodeTail CodeBranch CodeBranches CodeExpr CodeExprs CodeField CodeFields
    CodeFunction CodeItems CodeTails Kind Item Tail Branch Branches Expr Exprs Field Fields FunctionTree Items Tails plain_kind plain_item
    plain_tail plain_branch plain_branches plain plain_exprs plain_field plain_fields plain_function plain_items plain_tails one)
kind_from is one out = fold_out-ExprKind _ _ _ _ _ _ _ _ _ _ _ _
    kind_layer item_layer tail_layer branch_layer branches_layer expr_layer exprs_layer field_layer fields_layer
    function_layer items_layer tails_layer is
    ∙ ap (λ one. kind_layer (map-ExprKind CodeKind CodeItem CodeTail CodeBranch CodeBranches CodeExpr CodeExprs CodeField CodeFields
    CodeFunction CodeItems CodeTails Kind Item Tail Branch Branches Expr Exprs Field Fields FunctionTree Items Tails plain_kind plain_item
    plain_tail plain_branch plain_branches plain plain_exprs plain_field plain_fields plain_function plain_items plain_tails one)) out

pub kind_constant : (is : CodeConstant) → plain_kind (kind.Constant is) ≡ Constant is
kind_constant is = kind_from (kind.Constant is) (layer.Constant is) (kind.outs-Constant is)

pub kind_variable : (name : Name) → plain_kind (kind.Variable name) ≡ Variable name
kind_variable name = kind_from (kind.Variable name) (layer.Variable name) (kind.outs-Variable name)
