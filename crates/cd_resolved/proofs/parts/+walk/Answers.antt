use Rattle.std.proofs.Common.{rules}
use Rattle.cd_names.proofs.ExprSizes.{exprs_fall, items_fall, fields_fall, tails_fall}
use Rattle.cd_names.proofs.ExprSizes.{branches_fall}
use Rattle.cd_resolved.proofs.parts.+walk.Goals as goal

-- each item of a list is smaller than the list
pub lists::walk_exprs-walk-requires : goal.lists::walk_exprs-walk-requires
lists::walk_exprs-walk-requires t c =
    let fall = rw c.items-expr-items.ensures at (exprs_fall c.items-expr-items.result.now
    c.loop-expr.expr-index
    c.expr-item.result c.expr-item.is c.loop-expr-test.true) in
    search (rules, fall, c.decreases)

pub lists::walk_items-walk_item-requires : goal.lists::walk_items-walk_item-requires
lists::walk_items-walk_item-requires t c =
    let fall = rw c.items-item-items.ensures at (items_fall c.items-item-items.result.now
    c.loop-item.item-index
    c.item-item.result c.item-item.is c.loop-item-test.true) in
    search (rules, fall, c.decreases)

pub lists::walk_tails-walk_tail-requires : goal.lists::walk_tails-walk_tail-requires
lists::walk_tails-walk_tail-requires t c =
    let fall = rw c.items-tail-items.ensures at (tails_fall c.items-tail-items.result.now
    c.loop-tail.tail-index
    c.tail-item.result c.tail-item.is c.loop-tail-test.true) in
    search (rules, fall, c.decreases)

pub lists::walk_fields-walk_field-requires : goal.lists::walk_fields-walk_field-requires
lists::walk_fields-walk_field-requires t c =
    let fall = rw c.items-field-items.ensures at (fields_fall c.items-field-items.result.now
    c.loop-field.field-index
    c.field-item.result c.field-item.is c.loop-field-test.true) in
    search (rules, fall, c.decreases)

pub branches::walk_branches-walk_branch-requires : goal.branches::walk_branches-walk_branch-requires
branches::walk_branches-walk_branch-requires t c =
    let fall = rw c.items-branch-items.ensures at (branches_fall c.items-branch-items.result.now
    c.loop-branch.branch-index c.branch-item.result c.branch-item.is c.loop-branch-test.true) in
    search (rules, fall, c.decreases)
