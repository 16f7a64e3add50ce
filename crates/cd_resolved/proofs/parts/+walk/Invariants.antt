use Rattle.std.proofs.Common.{◌≡◌, ◌+◌, suc, map, drop}
use Rattle.cd_program.specs.Expr.{exprs_of, items_of, fields_of, tails_of, branches_of}
use Rattle.cd_program.specs.PlainExpr.{plain, plain_kind, plain_exprs, plain_items, plain_item}
use Rattle.cd_program.specs.PlainExpr.{plain_fields, plain_field, plain_tails, plain_tail}
use Rattle.cd_program.specs.PlainExpr.{plain_branches, plain_branch, plain_function}
use Rattle.cd_resolved.specs.Inner.Collecting.{with_exprs, with_items, with_fields, with_tails}
use Rattle.cd_resolved.specs.Inner.Collecting.{with_branches}
use Rattle.cd_resolved.specs.Inner.PlainParts.{plain_parts}
use Rattle.cd_names.proofs.ExprSizes.{size, size_kind, size_exprs, size_items, size_item}
use Rattle.cd_names.proofs.ExprSizes.{size_fields, size_tails, size_tail, size_branches}
use Rattle.cd_names.proofs.ExprSizes.{size_function}
use Rattle.cd_resolved.proofs.parts.+walk.Given as goal

abbrev pub decreases-expr::walk : goal.decreases-expr::walk
decreases-expr::walk l = size (plain l.expr.now)

abbrev pub decreases-expr::walk_kind : goal.decreases-expr::walk_kind
decreases-expr::walk_kind l = size_kind (plain_kind l.kind.now)

abbrev pub decreases-expr::walk_three : goal.decreases-expr::walk_three
decreases-expr::walk_three l =
    suc (size (plain l.first.now) + size (plain l.second.now) + size (plain l.third.now))

abbrev pub decreases-lists::walk_exprs : goal.decreases-lists::walk_exprs
decreases-lists::walk_exprs l = size_exprs (plain_exprs l.exprs.now)

abbrev pub decreases-lists::walk_items : goal.decreases-lists::walk_items
decreases-lists::walk_items l = size_items (plain_items l.items.now)

abbrev pub decreases-lists::walk_item : goal.decreases-lists::walk_item
decreases-lists::walk_item l = size_item (plain_item l.item.now)

abbrev pub decreases-lists::walk_fields : goal.decreases-lists::walk_fields
decreases-lists::walk_fields l = size_fields (plain_fields l.fields.now)

abbrev pub decreases-lists::walk_field : goal.decreases-lists::walk_field
decreases-lists::walk_field l = suc (size (plain_field l.field.now).expr)

abbrev pub decreases-lists::walk_chain : goal.decreases-lists::walk_chain
decreases-lists::walk_chain l =
    suc (size (plain l.first.now) + size_tails (plain_tails l.tails.now))

abbrev pub decreases-lists::walk_tails : goal.decreases-lists::walk_tails
decreases-lists::walk_tails l = size_tails (plain_tails l.tails.now)

abbrev pub decreases-lists::walk_tail : goal.decreases-lists::walk_tail
decreases-lists::walk_tail l = size_tail (plain_tail l.tail.now)

abbrev pub decreases-branches::walk_matching : goal.decreases-branches::walk_matching
decreases-branches::walk_matching l =
    suc (size (plain l.value.now) + size_branches (plain_branches l.branches.now))

abbrev pub decreases-branches::walk_branches : goal.decreases-branches::walk_branches
decreases-branches::walk_branches l = size_branches (plain_branches l.branches.now)

abbrev pub decreases-branches::walk_branch : goal.decreases-branches::walk_branch
decreases-branches::walk_branch l = suc (suc (size (plain_branch l.branch.now).body))

abbrev pub decreases-branches::walk_let : goal.decreases-branches::walk_let
decreases-branches::walk_let l = suc (suc (size (plain l.value.now) + size (plain l.rest.now)))

abbrev pub decreases-function::walk_inner : goal.decreases-function::walk_inner
decreases-function::walk_inner l = size_function (plain_function l.function.now)

-- to go on from here gives what the whole gives from the start
abbrev pub invariant-lists::walk_exprs-loop-expr : goal.invariant-lists::walk_exprs-loop-expr
invariant-lists::walk_exprs-loop-expr l =
    with_exprs (exprs_of (map plain (drop l.expr-index l.expr-items))) (plain_parts l.parts)
    ≡ with_exprs (plain_exprs l.exprs) (plain_parts l.fn.parts)

abbrev pub invariant-lists::walk_items-loop-item : goal.invariant-lists::walk_items-loop-item
invariant-lists::walk_items-loop-item l =
    with_items (items_of (map plain_item (drop l.item-index l.item-items))) (plain_parts l.parts)
    ≡ with_items (plain_items l.items) (plain_parts l.fn.parts)

abbrev pub invariant-lists::walk_fields-loop-field : goal.invariant-lists::walk_fields-loop-field
invariant-lists::walk_fields-loop-field l =
    with_fields (fields_of (map plain_field (drop l.field-index l.field-items)))
    (plain_parts l.parts)
    ≡ with_fields (plain_fields l.fields) (plain_parts l.fn.parts)

abbrev pub invariant-lists::walk_tails-loop-tail : goal.invariant-lists::walk_tails-loop-tail
invariant-lists::walk_tails-loop-tail l =
    with_tails (tails_of (map plain_tail (drop l.tail-index l.tail-items))) (plain_parts l.parts)
    ≡ with_tails (plain_tails l.tails) (plain_parts l.fn.parts)

abbrev pub invariant-branches::walk_branches-loop-branch :
    goal.invariant-branches::walk_branches-loop-branch
invariant-branches::walk_branches-loop-branch l =
    with_branches (branches_of (map plain_branch (drop l.branch-index l.branch-items)))
    (plain_parts l.parts)
    ≡ with_branches (plain_branches l.branches) (plain_parts l.fn.parts)
