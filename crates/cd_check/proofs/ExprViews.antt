-- What items and operators of the code are as plain data, form by form.
use Rattle.std.proofs.Common.{◌≡◌, ◌∙◌, ap}
use Rattle.std.specs.declared.alloc.Global.{Global}
use Rattle.std.specs.declared.boxed.Box.{Box}
use Rattle.cd_syntax.specs.Name.{Name}
use Rattle.cd_program.specs.Expr.{Kind, Item, One, Splice, Tail, Operand, Without, Select, Branch, Branches, Expr, Exprs, Field}
use Rattle.cd_program.specs.Expr.{Fields, FunctionTree, Items, Tails}
use Rattle.cd_program.specs.declared.operator.Op.{Op}
use Rattle.cd_program.specs.PlainExpr.{plain, plain_kind, plain_item, plain_tail, plain_branch, plain_branches, plain_exprs}
use Rattle.cd_program.specs.PlainExpr.{plain_field, plain_fields, plain_function, plain_items, plain_tails}
use Rattle.cd_program.specs.PlainExpr.{kind_layer, item_layer, tail_layer, branch_layer, branches_layer, expr_layer}
use Rattle.cd_program.specs.PlainExpr.{exprs_layer, field_layer, fields_layer, function_layer, items_layer, tails_layer}
use Rattle.cd_program.specs.declared.expr.ExprKind.TheOpen as layer
use Rattle.cd_program.specs.declared.expr.ExprKind.{ExprKind as CodeKind}
use Rattle.cd_program.specs.declared.expr.Item.{Item as CodeItem, Item-F, out-Item, map-Item, fold_out-Item}
use Rattle.cd_program.specs.declared.expr.Tail.{Tail as CodeTail, Tail-F, out-Tail, map-Tail, fold_out-Tail}
use Rattle.cd_program.specs.declared.expr.Branch.{Branch as CodeBranch}
use Rattle.cd_program.specs.declared.expr.Branches.{Branches as CodeBranches}
use Rattle.cd_program.specs.declared.expr.Expr.{Expr as CodeExpr}
use Rattle.cd_program.specs.declared.expr.Exprs.{Exprs as CodeExprs}
use Rattle.cd_program.specs.declared.expr.FieldExpr.{FieldExpr as CodeField}
use Rattle.cd_program.specs.declared.expr.FieldExprs.{FieldExprs as CodeFields}
use Rattle.cd_program.specs.declared.expr.FunctionTree.{FunctionTree as CodeFunction}
use Rattle.cd_program.specs.declared.expr.Items.{Items as CodeItems}
use Rattle.cd_program.specs.declared.expr.Tails.{Tails as CodeTails}
use Rattle.cd_program.specs.declared.expr.Item.TheVariants as item
use Rattle.cd_program.specs.declared.expr.Tail.TheVariants as tail

item_from : (is : CodeItem) (one : Item-F CodeKind CodeItem CodeTail CodeBranch CodeBranches CodeExpr CodeExprs CodeField CodeFields
    CodeFunction CodeItems CodeTails) → out-Item is ≡ one → plain_item is ≡ item_layer (map-Item CodeKind CodeItem CodeTail CodeBranch CodeBranches CodeExpr CodeExprs CodeField CodeFields
    CodeFunction CodeItems CodeTails Kind Item Tail Branch Branches Expr Exprs Field Fields FunctionTree Items Tails plain_kind plain_item
    plain_tail plain_branch plain_branches plain plain_exprs plain_field plain_fields plain_function plain_items plain_tails one)
item_from is one out = fold_out-Item _ _ _ _ _ _ _ _ _ _ _ _
    kind_layer item_layer tail_layer branch_layer branches_layer expr_layer exprs_layer field_layer fields_layer
    function_layer items_layer tails_layer is
    ∙ ap (λ one. item_layer (map-Item CodeKind CodeItem CodeTail CodeBranch CodeBranches CodeExpr CodeExprs CodeField CodeFields
    CodeFunction CodeItems CodeTails Kind Item Tail Branch Branches Expr Exprs Field Fields FunctionTree Items Tails plain_kind plain_item
    plain_tail plain_branch plain_branches plain plain_exprs plain_field plain_fields plain_function plain_items plain_tails one)) out

pub item_one : (e : Box CodeExpr Global) → plain_item (item.One e) ≡ One (plain e.value)
item_one e = item_from (item.One e) (layer.One e) (item.outs-One e)

pub item_splice : (e : Box CodeExpr Global) → plain_item (item.Splice e) ≡ Splice (plain e.value)
item_splice e = item_from (item.Splice e) (layer.Splice e) (item.outs-Splice e)

tail_from : (is : CodeTail) (one : Tail-F CodeKind CodeItem CodeTail CodeBranch CodeBranches CodeExpr CodeExprs CodeField CodeFields
    CodeFunction CodeItems CodeTails) → out-Tail is ≡ one → plain_tail is ≡ tail_layer (map-Tail CodeKind CodeItem CodeTail CodeBranch CodeBranches CodeExpr CodeExprs CodeField CodeFields
    CodeFunction CodeItems CodeTails Kind Item Tail Branch Branches Expr Exprs Field Fields FunctionTree Items Tails plain_kind plain_item
    plain_tail plain_branch plain_branches plain plain_exprs plain_field plain_fields plain_function plain_items plain_tails one)
tail_from is one out = fold_out-Tail _ _ _ _ _ _ _ _ _ _ _ _
    kind_layer item_layer tail_layer branch_layer branches_layer expr_layer exprs_layer field_layer fields_layer
    function_layer items_layer tails_layer is
    ∙ ap (λ one. tail_layer (map-Tail CodeKind CodeItem CodeTail CodeBranch CodeBranches CodeExpr CodeExprs CodeField CodeFields
    CodeFunction CodeItems CodeTails Kind Item Tail Branch Branches Expr Exprs Field Fields FunctionTree Items Tails plain_kind plain_item
    plain_tail plain_branch plain_branches plain plain_exprs plain_field plain_fields plain_function plain_items plain_tails one)) out

pub tail_operand : (is : Op) (e : Box CodeExpr Global) → plain_tail (tail.Operand is e) ≡ Operand is (plain e.value)
tail_operand is e = tail_from (tail.Operand is e) (layer.Operand is e) (tail.outs-Operand is e)

pub tail_without : (label : Name) → plain_tail (tail.Without label) ≡ Without label
tail_without label = tail_from (tail.Without label) (layer.Without label) (tail.outs-Without label)

pub tail_select : (label : Name) → plain_tail (tail.Select label) ≡ Select label
tail_select label = tail_from (tail.Select label) (layer.Select label) (tail.outs-Select label)
