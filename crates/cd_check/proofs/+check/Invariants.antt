use Rattle.cd_check.proofs.BodiesDone.{Done}
use Rattle.cd_check.proofs.ChainFaults.{StandsAs}
use Rattle.cd_check.proofs.FunctionsKept.{KeptSoFar}
use Rattle.cd_check.proofs.OperandFaults.{FaultsOf}
use Rattle.cd_check.proofs.OperandsLeast.{ExprsLeast, ItemsLeast, FieldsLeast}
use Rattle.cd_check.proofs.Sizes.{room}
use Rattle.cd_check.specs.Inner.Chains.{NarrowsOn, FaultsOn}
use Rattle.cd_check.specs.Inner.GoingOn.{GoesOn, LeadsOn}
use Rattle.cd_check.specs.Inner.Ready.{IsAfter, scope_of, seen_by}
use Rattle.cd_empty.specs.Seen.{graph_of}
use Rattle.cd_least.specs.Faults.{ArgumentsFault, TailsFault, ExprsFault, ItemsFault, FieldsFault}
use Rattle.cd_names.proofs.ExprSizes.{size, size_kind, size_exprs, size_items, size_item, size_fields, size_tails}
use Rattle.cd_names.proofs.ExprSizes.{size_tail, size_branches, size_function}
use Rattle.cd_program.specs.Expr.{exprs_of, items_of, fields_of, tails_of, Expr}
use Rattle.cd_program.specs.PlainExpr.{plain, plain_kind, plain_exprs, plain_items, plain_item, plain_fields}
use Rattle.cd_program.specs.PlainExpr.{plain_field, plain_tails, plain_tail, plain_branches, plain_function}
use Rattle.cd_program.specs.declared.expr.ExprKind.TheViews.{out-FunctionTree}
use Rattle.cd_typing.specs.Typ.{typ}
use Rattle.cd_typing.specs.Typing.{HaveAll, ItemsHave, FieldsHave, ArgumentsHave, TailsHave}
use Rattle.std.proofs.Common.{◌+◌, map, drop}
use Rattle.cd_check.proofs.+check.Given as goal

abbrev pub decreases-expr::check : goal.decreases-expr::check
decreases-expr::check l = room (size (plain l.expr.now))

abbrev pub decreases-expr::check_kind : goal.decreases-expr::check_kind
decreases-expr::check_kind l = room (size_kind (plain_kind l.kind.now)) + 7

abbrev pub decreases-expr::check_call : goal.decreases-expr::check_call
decreases-expr::check_call l = room (size (plain l.operand.now)) + 4

abbrev pub decreases-operands::check_tuple : goal.decreases-operands::check_tuple
decreases-operands::check_tuple l = room (size_exprs (plain_exprs l.exprs.now)) + 8

abbrev pub decreases-operands::check_exprs : goal.decreases-operands::check_exprs
decreases-operands::check_exprs l = room (size_exprs (plain_exprs l.exprs.now)) + 4

abbrev pub decreases-operands::check_sequence : goal.decreases-operands::check_sequence
decreases-operands::check_sequence l = room (size_items (plain_items l.items.now)) + 8

abbrev pub decreases-operands::check_items : goal.decreases-operands::check_items
decreases-operands::check_items l = room (size_items (plain_items l.items.now)) + 4

abbrev pub decreases-operands::check_item : goal.decreases-operands::check_item
decreases-operands::check_item l = room (size_item (plain_item l.item.now)) + 2

abbrev pub decreases-operands::check_record : goal.decreases-operands::check_record
decreases-operands::check_record l = room (size_fields (plain_fields l.fields.now)) + 8

abbrev pub decreases-operands::check_fields : goal.decreases-operands::check_fields
decreases-operands::check_fields l = room (size_fields (plain_fields l.fields.now)) + 4

abbrev pub decreases-operands::check_xml : goal.decreases-operands::check_xml
decreases-operands::check_xml l = room (size (plain l.tag.now) + size (plain l.attributes.now) + size (plain l.content.now)) + 8

abbrev pub decreases-function::check_function : goal.decreases-function::check_function
decreases-function::check_function l = room (size_function (plain_function l.function.now)) + 6

abbrev pub decreases-function::check_promise : goal.decreases-function::check_promise
decreases-function::check_promise l = room (size_function (plain_function l.function.now)) + 4

abbrev pub decreases-function::check_arrow : goal.decreases-function::check_arrow
decreases-function::check_arrow l = room (size_branches (plain_branches l.branches.now)) + 8

abbrev pub decreases-chain::check_apply : goal.decreases-chain::check_apply
decreases-chain::check_apply l = room (size_exprs (plain_exprs l.exprs.now)) + 8

abbrev pub decreases-chain::check_arguments : goal.decreases-chain::check_arguments
decreases-chain::check_arguments l = room (size_exprs (exprs_of (map plain l.arguments.now))) + 4

abbrev pub decreases-chain::check_argument : goal.decreases-chain::check_argument
decreases-chain::check_argument l = room (size (plain l.argument.now)) + 2

abbrev pub decreases-chain::check_chain : goal.decreases-chain::check_chain
decreases-chain::check_chain l = room (size (plain l.first.now) + size_tails (plain_tails l.tails.now)) + 8

abbrev pub decreases-chain::check_tails : goal.decreases-chain::check_tails
decreases-chain::check_tails l = room (size_tails (plain_tails l.tails.now)) + 4

abbrev pub decreases-chain::check_tail : goal.decreases-chain::check_tail
decreases-chain::check_tail l = room (size_tail (plain_tail l.tail.now)) + 3

abbrev pub decreases-chain::check_operand : goal.decreases-chain::check_operand
decreases-chain::check_operand l = room (size (plain l.expr.now)) + 4

abbrev pub decreases-test::check_if : goal.decreases-test::check_if
decreases-test::check_if l = room (size (plain l.condition.now) + size (plain l.then_one.now) + size (plain l.else_one.now)) + 8

abbrev pub decreases-test::check_short : goal.decreases-test::check_short
decreases-test::check_short l = room (size (plain l.expr.now)) + 4

abbrev pub decreases-test::check_side : goal.decreases-test::check_side
decreases-test::check_side l = room (size (plain l.expr.now)) + 2

abbrev pub decreases-branches::check_match : goal.decreases-branches::check_match
decreases-branches::check_match l = room (size (plain l.value.now) + size_branches (plain_branches l.branches.now)) + 16

abbrev pub decreases-branches::check_covering : goal.decreases-branches::check_covering
decreases-branches::check_covering l = room (size_branches (plain_branches l.branches.now)) + 8

abbrev pub decreases-branches::check_some : goal.decreases-branches::check_some
decreases-branches::check_some l = room (size_branches (plain_branches l.branches.now)) + 8

abbrev pub decreases-branches::check_let : goal.decreases-branches::check_let
decreases-branches::check_let l = room (size (plain l.value.now) + size (plain l.rest.now)) + 16

abbrev pub decreases-branches::check_try : goal.decreases-branches::check_try
decreases-branches::check_try l = room (size (plain l.body.now) + size_branches (plain_branches l.branches.now)) + 16

abbrev pub decreases-branches::check_map : goal.decreases-branches::check_map
decreases-branches::check_map l = room (size (plain l.value.now) + size_branches (plain_branches l.branches.now)) + 16

abbrev pub decreases-branches::check_transform : goal.decreases-branches::check_transform
decreases-branches::check_transform l = room (size (plain l.value.now) + size_branches (plain_branches l.branches.now)) + 16

abbrev pub decreases-bodies::check_bodies : goal.decreases-bodies::check_bodies
decreases-bodies::check_bodies l = room (size_branches (plain_branches l.branches.now)) + 4

abbrev pub decreases-bodies::check_body : goal.decreases-bodies::check_body
decreases-bodies::check_body l = room (size (plain l.body.now)) + 4

abbrev pub invariant-operands::check_exprs-loop-expr : goal.invariant-operands::check_exprs-loop-expr
invariant-operands::check_exprs-loop-expr l = IsAfter l.base l.locals l.fn.world l.world
    × GoesOn (HaveAll (scope_of l.base)) (graph_of l.fn.world) (seen_by l.base l.locals)
    (graph_of l.world) (plain_exprs l.exprs) (exprs_of (map plain (drop l.expr-index l.expr-items))) l.parts.items
    × GoesOn (ExprsLeast (scope_of l.base)) (graph_of l.fn.world) (seen_by l.base l.locals)
    (graph_of l.world) (plain_exprs l.exprs) (exprs_of (map plain (drop l.expr-index l.expr-items))) l.parts.items
    × FaultsOf (ExprsFault (scope_of l.base)) (plain_exprs l.exprs) (exprs_of (map plain (drop l.expr-index l.expr-items)))

abbrev pub invariant-operands::check_items-loop-item : goal.invariant-operands::check_items-loop-item
invariant-operands::check_items-loop-item l = IsAfter l.base l.locals l.fn.world l.world
    × GoesOn (ItemsHave (scope_of l.base)) (graph_of l.fn.world) (seen_by l.base l.locals)
    (graph_of l.world) (plain_items l.items) (items_of (map plain_item (drop l.item-index l.item-items))) l.parts.items
    × GoesOn (ItemsLeast (scope_of l.base)) (graph_of l.fn.world) (seen_by l.base l.locals)
    (graph_of l.world) (plain_items l.items) (items_of (map plain_item (drop l.item-index l.item-items))) l.parts.items
    × FaultsOf (ItemsFault (scope_of l.base)) (plain_items l.items) (items_of (map plain_item (drop l.item-index l.item-items)))

abbrev pub invariant-operands::check_fields-loop-field : goal.invariant-operands::check_fields-loop-field
invariant-operands::check_fields-loop-field l = IsAfter l.base l.locals l.fn.world l.world
    × GoesOn (FieldsHave (scope_of l.base)) (graph_of l.fn.world) (seen_by l.base l.locals)
    (graph_of l.world) (plain_fields l.fields) (fields_of (map plain_field (drop l.field-index l.field-items))) l.parts.items
    × GoesOn (FieldsLeast (scope_of l.base)) (graph_of l.fn.world) (seen_by l.base l.locals)
    (graph_of l.world) (plain_fields l.fields) (fields_of (map plain_field (drop l.field-index l.field-items))) l.parts.items
    × FaultsOf (FieldsFault (scope_of l.base)) (plain_fields l.fields) (fields_of (map plain_field (drop l.field-index l.field-items)))

abbrev pub invariant-chain::check_arguments-loop-argument : goal.invariant-chain::check_arguments-loop-argument
invariant-chain::check_arguments-loop-argument l = IsAfter l.base l.locals l.fn.world l.world
    × LeadsOn (ArgumentsHave (scope_of l.base)) (graph_of l.fn.world) (seen_by l.base l.locals)
    (typ (graph_of l.fn.world) l.fn.function) (graph_of l.world) (exprs_of (map plain l.arguments))
    (exprs_of (map plain (drop l.argument-index l.arguments))) l.id
    × NarrowsOn (ArgumentsHave (scope_of l.base)) (graph_of l.fn.world) (seen_by l.base l.locals)
    (typ (graph_of l.fn.world) l.fn.function) (graph_of l.world) (exprs_of (map plain l.arguments))
    (exprs_of (map plain (drop l.argument-index l.arguments))) l.id
    × ((f : Expr) → StandsAs (seen_by l.base l.locals) (scope_of l.base) (graph_of l.fn.world) l.fn.function l.fn.from f
    → FaultsOn (scope_of l.base) (λ types one rest. ArgumentsFault (scope_of l.base) types l.at one rest) (graph_of l.fn.world)
    (seen_by l.base l.locals) f (graph_of l.world) (exprs_of (map plain l.arguments))
    (exprs_of (map plain (drop l.argument-index l.arguments))) l.id l.place)

abbrev pub invariant-chain::check_tails-loop-tail : goal.invariant-chain::check_tails-loop-tail
invariant-chain::check_tails-loop-tail l = IsAfter l.base l.locals l.fn.world l.world
    × LeadsOn (TailsHave (scope_of l.base)) (graph_of l.fn.world) (seen_by l.base l.locals)
    (typ (graph_of l.fn.world) l.fn.first) (graph_of l.world) (plain_tails l.tails)
    (tails_of (map plain_tail (drop l.tail-index l.tail-items))) l.id
    × NarrowsOn (TailsHave (scope_of l.base)) (graph_of l.fn.world) (seen_by l.base l.locals)
    (typ (graph_of l.fn.world) l.fn.first) (graph_of l.world) (plain_tails l.tails)
    (tails_of (map plain_tail (drop l.tail-index l.tail-items))) l.id
    × ((f : Expr) → StandsAs (seen_by l.base l.locals) (scope_of l.base) (graph_of l.fn.world) l.fn.first l.fn.from f
    → FaultsOn (scope_of l.base) (λ types one rest. TailsFault (scope_of l.base) types l.at one rest) (graph_of l.fn.world)
    (seen_by l.base l.locals) f (graph_of l.world) (plain_tails l.tails)
    (tails_of (map plain_tail (drop l.tail-index l.tail-items))) l.id l.place)

abbrev pub invariant-bodies::check_bodies-loop-number : goal.invariant-bodies::check_bodies-loop-number
invariant-bodies::check_bodies-loop-number l = Done l.base l.locals l.fn.world l.division (plain_branches l.branches) l.branch-items l.limit
    l.world l.number l.results.items

abbrev pub invariant-function::check_promise-loop-argument : goal.invariant-function::check_promise-loop-argument
invariant-function::check_promise-loop-argument l = IsAfter l.base l.inner.items l.fn.world l.world
    × KeptSoFar l.base l.inner.items (graph_of l.fn.world) (plain_branches (out-FunctionTree l.function).branches)
    l.argument-items (drop l.argument-index l.argument-items)
