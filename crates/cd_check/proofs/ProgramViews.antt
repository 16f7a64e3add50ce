-- Branches and functions of the code as plain data.
use Rattle.std.proofs.Common.{◌≡◌, ap}
use Rattle.cd_syntax.specs.PlainTree.{plain as plain_tree}
use Rattle.cd_program.specs.Expr.{Branch, Field, function}
use Rattle.cd_program.specs.PlainExpr.{plain, plain_branch, plain_branches, plain_field, plain_function, plain_interface}
use Rattle.cd_program.specs.PlainExpr.{kind_layer, item_layer, tail_layer, branch_layer, branches_layer, expr_layer}
use Rattle.cd_program.specs.PlainExpr.{exprs_layer, field_layer, fields_layer, function_layer, items_layer, tails_layer}
use Rattle.cd_program.specs.declared.expr.Branch.{Branch as CodeBranch, fold_out-Branch}
use Rattle.cd_program.specs.declared.expr.FieldExpr.{FieldExpr as CodeField, fold_out-FieldExpr}
use Rattle.cd_program.specs.declared.expr.FunctionTree.{FunctionTree as CodeFunction, fold_out-FunctionTree}
use Rattle.cd_program.specs.declared.expr.ExprKind.TheViews.{out-Branch, out-FieldExpr, out-FunctionTree}

branch_is : (one : CodeBranch) → plain_branch one
    ≡ record { pattern = plain_tree (out-Branch one).pattern; body = plain (out-Branch one).body }
branch_is = fold_out-Branch _ _ _ _ _ _ _ _ _ _ _ _
    kind_layer item_layer tail_layer branch_layer branches_layer expr_layer exprs_layer field_layer fields_layer
    function_layer items_layer tails_layer

pub branch_pattern : (one : CodeBranch) → (plain_branch one).pattern ≡ plain_tree (out-Branch one).pattern
branch_pattern one = ap (λ (branch : Branch). branch.pattern) (branch_is one)

pub branch_body : (one : CodeBranch) → (plain_branch one).body ≡ plain (out-Branch one).body
branch_body one = ap (λ (branch : Branch). branch.body) (branch_is one)

field_is : (one : CodeField) → plain_field one
    ≡ record { label = (out-FieldExpr one).label; at = (out-FieldExpr one).at; expr = plain (out-FieldExpr one).expr }
field_is = fold_out-FieldExpr _ _ _ _ _ _ _ _ _ _ _ _
    kind_layer item_layer tail_layer branch_layer branches_layer expr_layer exprs_layer field_layer fields_layer
    function_layer items_layer tails_layer

pub field_expr : (one : CodeField) → (plain_field one).expr ≡ plain (out-FieldExpr one).expr
field_expr one = ap (λ (field : Field). field.expr) (field_is one)

pub function_is : (one : CodeFunction) → plain_function one ≡ function (out-FunctionTree one).at (out-FunctionTree one).name
    (out-FunctionTree one).name_at (plain_interface (out-FunctionTree one).interface) (plain_branches (out-FunctionTree one).branches)
function_is = fold_out-FunctionTree _ _ _ _ _ _ _ _ _ _ _ _
    kind_layer item_layer tail_layer branch_layer branches_layer expr_layer exprs_layer field_layer fields_layer
    function_layer items_layer tails_layer
