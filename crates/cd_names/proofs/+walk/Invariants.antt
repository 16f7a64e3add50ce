use Rattle.std.proofs.Common.{◌≡◌, ◌+◌, ◌++◌, suc, map, drop}
use Rattle.cd_program.specs.Expr.{exprs_of, items_of, fields_of, tails_of, branches_of}
use Rattle.cd_program.specs.PlainExpr.{plain, plain_kind, plain_exprs, plain_items, plain_item}
use Rattle.cd_program.specs.PlainExpr.{plain_fields}
use Rattle.cd_program.specs.PlainExpr.{plain_field, plain_tails, plain_tail, plain_branches}
use Rattle.cd_program.specs.PlainExpr.{plain_branch}
use Rattle.cd_program.specs.PlainExpr.{plain_function}
use Rattle.cd_names.specs.Inner.FindingInPrograms.{found_in_exprs, found_in_items, found_in_fields}
use Rattle.cd_names.specs.Inner.FindingInPrograms.{found_in_tails}
use Rattle.cd_names.specs.Inner.FindingInPrograms.{found_in_branches}
use Rattle.cd_names.specs.Inner.PlainFound.{plain_found}
use Rattle.cd_names.proofs.ExprSizes.{size, size_kind, size_exprs, size_items, size_item}
use Rattle.cd_names.proofs.ExprSizes.{size_fields, size_tails, size_tail}
use Rattle.cd_names.proofs.ExprSizes.{size_branches, size_function}
use Rattle.cd_names.proofs.+walk.Given as goal

abbrev pub decreases-expr::walk : goal.decreases-expr::walk
decreases-expr::walk l = size (plain l.expr.now)

abbrev pub decreases-expr::walk_kind : goal.decreases-expr::walk_kind
decreases-expr::walk_kind l = size_kind (plain_kind l.kind.now)

abbrev pub decreases-expr::walk_three : goal.decreases-expr::walk_three
decreases-expr::walk_three l =
    suc (size (plain l.first.now) + size (plain l.second.now) + size (plain l.third.now))

abbrev pub decreases-lists::walk_exprs : goal.decreases-lists::walk_exprs
decreases-lists::walk_exprs l = size_exprs (plain_exprs l.exprs.now)

abbrev pub decreases-lists::walk_items : goal.decreases-lists::walk_items
decreases-lists::walk_items l = size_items (plain_items l.items.now)

abbrev pub decreases-lists::walk_item : goal.decreases-lists::walk_item
decreases-lists::walk_item l = size_item (plain_item l.item.now)

abbrev pub decreases-lists::walk_chain : goal.decreases-lists::walk_chain
decreases-lists::walk_chain l =
    suc (size (plain l.first.now) + size_tails (plain_tails l.tails.now))

abbrev pub decreases-lists::walk_tails : goal.decreases-lists::walk_tails
decreases-lists::walk_tails l = size_tails (plain_tails l.tails.now)

abbrev pub decreases-lists::walk_tail : goal.decreases-lists::walk_tail
decreases-lists::walk_tail l = size_tail (plain_tail l.tail.now)

abbrev pub decreases-record::walk_record : goal.decreases-record::walk_record
decreases-record::walk_record l = suc (size_fields (plain_fields l.fields.now))

abbrev pub decreases-record::walk_fields : goal.decreases-record::walk_fields
decreases-record::walk_fields l = size_fields (plain_fields l.fields.now)

abbrev pub decreases-record::walk_field : goal.decreases-record::walk_field
decreases-record::walk_field l = suc (size (plain_field l.field.now).expr)

abbrev pub decreases-branches::walk_matching : goal.decreases-branches::walk_matching
decreases-branches::walk_matching l =
    suc (size (plain l.value.now) + size_branches (plain_branches l.branches.now))

abbrev pub decreases-branches::walk_branches : goal.decreases-branches::walk_branches
decreases-branches::walk_branches l = size_branches (plain_branches l.branches.now)

abbrev pub decreases-branches::walk_branch : goal.decreases-branches::walk_branch
decreases-branches::walk_branch l = suc (suc (size (plain_branch l.branch.now).body))

abbrev pub decreases-branches::walk_let : goal.decreases-branches::walk_let
decreases-branches::walk_let l = suc (suc (size (plain l.value.now) + size (plain l.rest.now)))

abbrev pub decreases-branches::walk_under : goal.decreases-branches::walk_under
decreases-branches::walk_under l = suc (size (plain l.body.now))

abbrev pub decreases-function::walk_function : goal.decreases-function::walk_function
decreases-function::walk_function l = size_function (plain_function l.function.now)

-- to go on from here gives what the whole gives from the start
abbrev pub invariant-lists::walk_exprs-loop-expr : goal.invariant-lists::walk_exprs-loop-expr
invariant-lists::walk_exprs-loop-expr l = (l.locals ≡ l.fn.locals)
    × (found_in_exprs (l.fn.locals ++ l.base.functions.now)
    (exprs_of (map plain (drop l.expr-index l.expr-items)))
    (plain_found l.found)
    ≡ found_in_exprs (l.fn.locals ++ l.base.functions.now) (plain_exprs l.exprs)
    (plain_found l.fn.found))

abbrev pub invariant-lists::walk_items-loop-item : goal.invariant-lists::walk_items-loop-item
invariant-lists::walk_items-loop-item l = (l.locals ≡ l.fn.locals)
    × (found_in_items (l.fn.locals ++ l.base.functions.now)
    (items_of (map plain_item (drop l.item-index l.item-items)))
    (plain_found l.found)
    ≡ found_in_items (l.fn.locals ++ l.base.functions.now) (plain_items l.items)
    (plain_found l.fn.found))

abbrev pub invariant-lists::walk_tails-loop-tail : goal.invariant-lists::walk_tails-loop-tail
invariant-lists::walk_tails-loop-tail l = (l.locals ≡ l.fn.locals)
    × (found_in_tails (l.fn.locals ++ l.base.functions.now)
    (tails_of (map plain_tail (drop l.tail-index l.tail-items)))
    (plain_found l.found)
    ≡ found_in_tails (l.fn.locals ++ l.base.functions.now) (plain_tails l.tails)
    (plain_found l.fn.found))

abbrev pub invariant-record::walk_fields-loop-field : goal.invariant-record::walk_fields-loop-field
invariant-record::walk_fields-loop-field l = (l.locals ≡ l.fn.locals)
    × (found_in_fields (l.fn.locals ++ l.base.functions.now)
    (fields_of (map plain_field (drop l.field-index l.field-items))) (plain_found l.found)
    ≡ found_in_fields (l.fn.locals ++ l.base.functions.now) (plain_fields l.fields)
    (plain_found l.fn.found))

abbrev pub invariant-branches::walk_branches-loop-branch :
    goal.invariant-branches::walk_branches-loop-branch
invariant-branches::walk_branches-loop-branch l = (l.locals ≡ l.fn.locals)
    × (found_in_branches (l.fn.locals ++ l.base.functions.now)
    (branches_of (map plain_branch (drop l.branch-index l.branch-items))) (plain_found l.found)
    ≡ found_in_branches (l.fn.locals ++ l.base.functions.now) (plain_branches l.branches)
    (plain_found l.fn.found))
