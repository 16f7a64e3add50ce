use Rattle.std.proofs.Common.{rules, [], ◌∷◌, ◌++◌, ap, ◌∙◌}
use Rattle.cd_syntax.specs.PlainTree.{plain as plain_tree}
use Rattle.cd_program.specs.PlainExpr.{plain}
use Rattle.cd_names.specs.Inner.FindingInPrograms.{found_in_expr}
use Rattle.cd_names.specs.Inner.PlainFound.{plain_found}
use Rattle.cd_names.proofs.LocalNames.{seen_under}
use Rattle.cd_names.proofs.ExprSizes.{exprs_fall, items_fall, fields_fall, tails_fall}
use Rattle.cd_names.proofs.ExprSizes.{branches_fall}
use Rattle.cd_names.proofs.+walk.Goals as goal
use Rattle.cd_names.proofs.+walk.Goals.{function::walk_function-in-Some+in_ok-enter}
use Rattle.cd_names.proofs.+walk.Goals.{function::walk_function-in_default}

-- each item of a list is smaller than the list
pub lists::walk_exprs-walk-requires : goal.lists::walk_exprs-walk-requires
lists::walk_exprs-walk-requires t c =
    let fall = rw c.items-expr-items.ensures at (exprs_fall c.items-expr-items.result.now
    c.loop-expr.expr-index
    c.expr-item.result c.expr-item.is c.loop-expr-test.true) in
    search (rules, fall, c.decreases)

pub lists::walk_items-walk_item-requires : goal.lists::walk_items-walk_item-requires
lists::walk_items-walk_item-requires t c =
    let fall = rw c.items-item-items.ensures at (items_fall c.items-item-items.result.now
    c.loop-item.item-index
    c.item-item.result c.item-item.is c.loop-item-test.true) in
    search (rules, fall, c.decreases)

pub lists::walk_tails-walk_tail-requires : goal.lists::walk_tails-walk_tail-requires
lists::walk_tails-walk_tail-requires t c =
    let fall = rw c.items-tail-items.ensures at (tails_fall c.items-tail-items.result.now
    c.loop-tail.tail-index
    c.tail-item.result c.tail-item.is c.loop-tail-test.true) in
    search (rules, fall, c.decreases)

pub record::walk_fields-walk_field-requires : goal.record::walk_fields-walk_field-requires
record::walk_fields-walk_field-requires t c =
    let fall = rw c.items-field-items.ensures at (fields_fall c.items-field-items.result.now
    c.loop-field.field-index
    c.field-item.result c.field-item.is c.loop-field-test.true) in
    search (rules, fall, c.decreases)

pub branches::walk_branches-walk_branch-requires : goal.branches::walk_branches-walk_branch-requires
branches::walk_branches-walk_branch-requires t c =
    let fall = rw c.items-branch-items.ensures at (branches_fall c.items-branch-items.result.now
    c.loop-branch.branch-index c.branch-item.result c.branch-item.is c.loop-branch-test.true) in
    search (rules, fall, c.decreases)

-- an expression sees what the pattern above it binds
pub branches::walk_under-returns-clause-found : goal.branches::walk_under-returns-clause-found
branches::walk_under-returns-clause-found t c =
    let pattern = plain_tree c.args.pattern.now in
    let body = plain c.args.body.now in
    let functions = c.args.base.now.functions.now in
    c.in_ok-walk.ensures.found
    ∙ ap (λ locals. found_in_expr (locals ++ functions) body (plain_found c.look_at.new.found))
    c.in_ok-enter_all.ensures
    ∙ ap (λ seen. found_in_expr seen body (plain_found c.look_at.new.found))
    (seen_under c.in_ok-bound.bound.items pattern c.args.locals.now functions
    c.in_ok-bound.ensures.bound)
    ∙ ap (found_in_expr _ body) c.in_ok-bound.ensures.found

-- and what was entered is taken away
pub function::walk_function-returns-clause-locals :
    goal.function::walk_function-returns-clause-locals
function::walk_function-returns-clause-locals t c = elim c.match-function.branch [
  | function::walk_function-in-Some+in_ok-enter w ↦ c.cut.ensures (_ ∷ []) c.args.locals.now
      (c.in_ok-walk_branches.ensures.locals ∙ w.locals-is ∙ w.in_ok-enter.ensures)
      c.len-outside.ensures
  | function::walk_function-in_default w ↦ c.cut.ensures [] c.args.locals.now
      (c.in_ok-walk_branches.ensures.locals ∙ w.locals-is) c.len-outside.ensures
]
