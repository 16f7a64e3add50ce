use Rattle.cd_apply.specs.Applications.{IsResultNode, AreMappedInto, AreResultsAlone, NamesNoFunction, NamesOutside}
use Rattle.cd_apply.specs.declared.application.Applied.{Applied}
use Rattle.cd_check.proofs.After.{after_all, after_both, after_grown, after_none, after_others, after_same, after_start, after_step}
use Rattle.cd_check.proofs.ArgumentFaults.{no_function, outside_domain}
use Rattle.cd_check.proofs.Arguments.{argument_follows, tail_follows}
use Rattle.cd_check.proofs.ArgumentsLeast.{apply_least, narrows_first, one_argument_narrows, all_arguments_narrow}
use Rattle.cd_check.proofs.ArgumentsLeast.{chain_least, one_tail_narrows, all_tails_narrow}
use Rattle.cd_check.proofs.ArrowFaults.{arrow_uncovered, arrow_body_fault, within_result}
use Rattle.cd_check.proofs.ArrowsKept.{KeptAt}
use Rattle.cd_check.proofs.BodiesChecked.{body_is_sound, one_gives, limit_later, nothing_comes, something_comes}
use Rattle.cd_check.proofs.BodiesChecked.{ready_all, none_gives}
use Rattle.cd_check.proofs.BodiesDone.{Done, there, is_sound, one_done, all_done, is_sited, matched_below, none_done}
use Rattle.cd_check.proofs.BodiesDone.{all_done_least, one_failed}
use Rattle.cd_check.proofs.BodyTaken.{taken_known, taken_fails, beyond_fails}
use Rattle.cd_check.proofs.BranchForms.{let_fails, let_uncovered, try_is_least, try_fails, map_is_least, map_fails}
use Rattle.cd_check.proofs.BranchForms.{match_is_least, match_fails, union_least, let_is_least, let_is_empty}
use Rattle.cd_check.proofs.BranchForms.{transform_is_least, transform_fails}
use Rattle.cd_check.proofs.BranchesEarlier.{branches_fail_earlier, bodies_least_earlier, body_least_moved}
use Rattle.cd_check.proofs.BranchesGiven.{bodies_earlier, cover_earlier, covering_gives, bodies_from, lists_in}
use Rattle.cd_check.proofs.BranchesGiven.{body_moved, built_in_below, none_passes, before_last, last_within}
use Rattle.cd_check.proofs.BranchesGiven.{sequences_within}
use Rattle.cd_check.proofs.ChainFaults.{apply_fails, faults_first, one_argument_faults, all_arguments_fail}
use Rattle.cd_check.proofs.ChainFaults.{chain_fails, one_tail_faults, all_tails_fail}
use Rattle.cd_check.proofs.Decided.{site_decides}
use Rattle.cd_check.proofs.Divided.{none_takes_earlier, one_untaken, they_cover, last_node}
use Rattle.cd_check.proofs.Divided.{sited_later, none_takes}
use Rattle.cd_check.proofs.ExprViews.{item_one, item_splice, tail_without, tail_select}
use Rattle.cd_check.proofs.FewerOperands.{operand_gives}
use Rattle.cd_check.proofs.FormsWithBranches.{let_gives_none, try_gives, match_gives, transform_gives, map_gives}
use Rattle.cd_check.proofs.FormsWithBranches.{let_gives}
use Rattle.cd_check.proofs.FromReady.{type_in}
use Rattle.cd_check.proofs.FunctionsBelow.{function_below}
use Rattle.cd_check.proofs.FunctionsFailed.{promise_failed}
use Rattle.cd_check.proofs.FunctionsKept.{arrow_given, arrows_below, at_any, pair_at, one_kept, promise_kept}
use Rattle.cd_check.proofs.FunctionsKept.{function_gives, patterns_sound, branches_sound, function_within}
use Rattle.cd_check.proofs.FunctionsKept.{ready_named, whole_below}
use Rattle.cd_check.proofs.GivesSame.{gives_same}
use Rattle.cd_check.proofs.KindViews.{kind_constant, kind_variable}
use Rattle.cd_check.proofs.KnownTypes.{known, known_later, fails_more}
use Rattle.cd_check.proofs.LeastLooped.{least_expr, least_item, least_field}
use Rattle.cd_check.proofs.Looped.{one_expr, one_argument, one_item, one_tail, one_field}
use Rattle.cd_check.proofs.Loops.{left_is, none_left_have}
use Rattle.cd_check.proofs.NamesFound.{node_below, seen_has_node}
use Rattle.cd_check.proofs.Needed.{breaks}
use Rattle.cd_check.proofs.OperandFaults.{FaultsOf, of_itself, past_expr, expr_fails, past_item, item_fails}
use Rattle.cd_check.proofs.OperandFaults.{splice_misfits, past_field, field_fails}
use Rattle.cd_check.proofs.OperandMisfits.{part_fails, operand_fails}
use Rattle.cd_check.proofs.OperandsLeast.{ExprsLeast, none_least, ItemsLeast, no_item_least, item_least_steps}
use Rattle.cd_check.proofs.OperandsLeast.{splice_least_steps, FieldsLeast, no_field_least}
use Rattle.cd_check.proofs.OperandsMade.{xml_gives, within_atom, within_record}
use Rattle.cd_check.proofs.OperandsTyped.{item_steps, splice_steps}
use Rattle.cd_check.proofs.OperatorsLeast.{applied_least, operated_least}
use Rattle.cd_check.proofs.Places.{place_is}
use Rattle.cd_check.proofs.ProgramViews.{field_expr, branch_body, function_is}
use Rattle.cd_check.proofs.ReadyLater.{later_of, ready_later, tools_later}
use Rattle.cd_check.proofs.RecordsLabelled.{are_labels, are_once, parts_count}
use Rattle.cd_check.proofs.SidesHeld.{holds_earlier}
use Rattle.cd_check.proofs.SidesLeast.{short_least, short_test_fails, short_side_fails, test_least, condition_fails}
use Rattle.cd_check.proofs.SidesLeast.{test_fails, then_fails, else_fails, SideBelow}
use Rattle.cd_check.proofs.Sizes.{room_falls}
use Rattle.cd_check.proofs.SoundAt.{item_at, tail_at, expr_at, field_at}
use Rattle.cd_check.proofs.StopsPlaced.{word_placed}
use Rattle.cd_check.proofs.Tests.{if_gives, is_truth, Side, short_gives, short_holds}
use Rattle.cd_check.proofs.TruthNodes.{truth_held, truth_alone, tested_has}
use Rattle.cd_check.proofs.TypesLater.{types_later}
use Rattle.cd_check.proofs.Uncovered.{uncovered_fails}
use Rattle.cd_check.proofs.Variables.{variable_has, variable_below}
use Rattle.cd_check.proofs.Walks.{both_nodes, starts_on, goes_to_end}
use Rattle.cd_check.proofs.XmlKnown.{xml_below, tag_misfits, attributes_misfit, attributes_fail, content_fails}
use Rattle.cd_check.specs.Inner.Bodies.{BodyGives}
use Rattle.cd_check.specs.Inner.BodyFaults.{BodyLeast, CoveringFault}
use Rattle.cd_check.specs.Inner.Chains.{NarrowsOn, FaultsOn}
use Rattle.cd_check.specs.Inner.Divided.{IsSited, sited_pattern, coming_pattern, IsDivision}
use Rattle.cd_check.specs.Inner.Environment.{Gives, Nodes}
use Rattle.cd_check.specs.Inner.Failing.{ArrowFails}
use Rattle.cd_check.specs.Inner.Failing.{BodyFails, KindFails, ArgumentFails, TailFails, SideFails, ExprFails}
use Rattle.cd_check.specs.Inner.GoingOn.{GoesOn, LeadsOn, listed, Steps}
use Rattle.cd_check.specs.Inner.Known.{IsKnown, IsBelow, Fails, IsOutside}
use Rattle.cd_check.specs.Inner.LeastNodes.{KindLeast, TailLeast}
use Rattle.cd_check.specs.Inner.Promises.{ArePairs}
use Rattle.cd_check.specs.Inner.Ready.{IsAfter, seen_by, scope_of, program_of, names_seen}
use Rattle.cd_check.specs.Inner.Sides.{HoldsSome, truth_node, IsInEither}
use Rattle.cd_check.specs.Inner.SoundNames.{FieldsAreSound, ItemsAreSound, AreSound, IsSound, TailsAreSound}
use Rattle.cd_check.specs.Inner.SoundNames.{KindIsSound}
use Rattle.cd_check.specs.Inner.Stopped.{placed_at}
use Rattle.cd_check.specs.declared.bodies.Limit.{Limit}
use Rattle.cd_check.specs.declared.fault.CheckError.{CheckError}
use Rattle.cd_check.specs.declared.sites.Coming.{Coming}
use Rattle.cd_elements.specs.Table.{element_at}
use Rattle.cd_empty.specs.Seen.{graph_of, table_of}
use Rattle.cd_forms.specs.Labels.{labels_of, AreLabels, AreOnce}
use Rattle.cd_forms.specs.Unions.{IsInOne}
use Rattle.cd_least.proofs.LeastForms.{record_least}
use Rattle.cd_least.proofs.LeastForms.{without_least, select_least, constant_least, tuple_least, sequence_least}
use Rattle.cd_least.specs.Faults.{ArgumentsFault, TailsFault, Fault, BranchFault, Nothing, Breaks, KindFault}
use Rattle.cd_least.specs.Faults.{WordFault, ExprsFault, ItemsFault, FieldsFault}
use Rattle.cd_least.specs.Misses.{IsUncovered, place_of}
use Rattle.cd_meaning.specs.Records.{HasFieldAt}
use Rattle.cd_meaning.specs.Sequences.{IsSequence, IsItemOf}
use Rattle.cd_meaning.specs.Sets.{◌⊆◌, elements_of}
use Rattle.cd_model.specs.AllOf.{AllOf}
use Rattle.cd_model.specs.BuiltIns.{EMPTY, DATA, RECORD, BOOL, ATOM}
use Rattle.cd_model.specs.Formula.{Graph}
use Rattle.cd_names.proofs.ExprSizes.{size, size_exprs, size_item, size_items, size_fields, size_tail, size_tails}
use Rattle.cd_names.proofs.ExprSizes.{size_branches, exprs_fall, items_fall, fields_fall, tails_fall, branches_fall}
use Rattle.cd_names.proofs.ExprSizes.{size_function}
use Rattle.cd_names.specs.ProgramFaults.{names_of}
use Rattle.cd_program.specs.Expr.{ABranch, NoBranch, Map, Transform, AnItem, One, Splice, items_of, branches_of}
use Rattle.cd_program.specs.Expr.{Apply, Without, Select, Operand, Tails, tails_of, Kind, Exprs, exprs_of, Fields}
use Rattle.cd_program.specs.Expr.{fields_of, Tail, Items, Expr, Item, Call}
use Rattle.cd_program.specs.PlainExpr.{plain, plain_branches, plain_tail, plain_tails, plain_item, plain_items}
use Rattle.cd_program.specs.PlainExpr.{plain_branch, plain_fields, plain_function, plain_kind, plain_exprs}
use Rattle.cd_program.specs.PlainExpr.{plain_field}
use Rattle.cd_program.specs.declared.expr.Expr.{Expr as CodeExpr}
use Rattle.cd_program.specs.declared.expr.ExprKind.TheViews.{out-FunctionTree, out-Expr}
use Rattle.cd_program.specs.declared.expr.FieldExpr.{FieldExpr as CodeField}
use Rattle.cd_program.specs.declared.expr.Item.{Item as CodeItem}
use Rattle.cd_program.specs.declared.expr.Tail.{Tail as CodeTail}
use Rattle.cd_sets.specs.declared.node_id.NodeId.{NodeId}
use Rattle.cd_sites.specs.Sites.{IsSite}
use Rattle.cd_syntax.specs.PlainTree.{plain as plain_tree}
use Rattle.cd_syntax.specs.TypeTree.{Tree}
use Rattle.cd_typing.proofs.BuiltInSets.{built_in_within, node_within}
use Rattle.cd_typing.proofs.Later.{later_in, below_later, earlier_in, later_still}
use Rattle.cd_typing.proofs.Subsets.{through, itself}
use Rattle.cd_typing.specs.Later.{IsLater}
use Rattle.cd_typing.specs.Operators.{truth}
use Rattle.cd_typing.specs.Results.{IsSequenceOf, IsTupleOf, IsXmlOf, IsRecordOf}
use Rattle.cd_typing.specs.Typ.{typ, BuiltIn}
use Rattle.cd_typing.specs.Typing.{ApplyHas, ArgumentsHave, Has, FieldsHave, HaveAll, KindHas, TailsHave, ItemsHave}
use Rattle.cd_typing.specs.Typing.{TailHas}
use Rattle.cd_typing.specs.declared.rule.Rule.TheVariants as rule
use Rattle.std.proofs.Common.{None, get_or, inl, inr, subst, List, sym, map, refl, ◌≡◌, ◌∙◌, ◌∷◌, ◌-◌, ap, arith}
use Rattle.std.proofs.Common.{Option, Vec, Global, append-nil, not, Some, drop, length, take, ◌<◌, ◌++◌, [], lit<}
use Rattle.std.proofs.Common.{true, rules, suc, ◌+◌}
use Rattle.std.proofs.lemmas.List.{length-drop, take_all, length-map, drop_all}
use Rattle.std.proofs.lemmas.Result.{IfOk-weaker, IfErr-weaker, err_from_is_err_and}
use Rattle.std.specs.Slice.{IsItemAt}
use Rattle.cd_check.proofs.+check.Goals.{bodies::check_bodies-in_default, bodies::check_bodies-in-Some-2+in_ok-add}
use Rattle.cd_check.proofs.+check.Goals.{operands::check_items-in-Some+in_ok-add, operands::check_items-in_default}
use Rattle.cd_check.proofs.+check.Goals as goal

pub test::check_if-returns-clause-after : goal.test::check_if-returns-clause-after
test::check_if-returns-clause-after t c =
    let base = c.args.base.now in
    let locals = c.args.locals.now in
    let first = after_same base locals c.args.world.now c.check.new.world c.need_at.new.world c.in_ok-tested.ensures.after c.need_at.ensures.graph
    c.need_at.ensures.grows in
    let second = after_both base locals c.args.world.now c.need_at.new.world c.check_side.new.world first c.in_ok-one.ensures.after in
    let third = after_both base locals c.args.world.now c.check_side.new.world c.check_side-2.new.world second c.in_ok-other.ensures.after in
    after_grown base locals c.args.world.now c.check_side-2.new.world c.either.new.world third c.either.ensures.grows c.either.ensures.sound

pub test::check_if-returns-clause-gives : goal.test::check_if-returns-clause-gives
test::check_if-returns-clause-gives t c =
    let base = c.args.base.now in
    let locals = c.args.locals.now in
    let old = graph_of c.args.world.now in
    let nodes = seen_by base locals in
    let tested = c.in_ok-tested.tested in
    let first = after_same base locals c.args.world.now c.check.new.world c.need_at.new.world c.in_ok-tested.ensures.after c.need_at.ensures.graph
    c.need_at.ensures.grows in
    let second = after_both base locals c.args.world.now c.need_at.new.world c.check_side.new.world first c.in_ok-one.ensures.after in
    let third = after_both base locals c.args.world.now c.check_side.new.world c.check_side-2.new.world second c.in_ok-other.ensures.after in
    let last = after_grown base locals c.args.world.now c.check_side-2.new.world c.either.new.world third c.either.ensures.grows
    c.either.ensures.sound in
    let condition = c.in_ok-tested.ensures.after.ready in
    if_gives (scope_of base) nodes old c.requires.ready.sound c.requires.ready.nodes (plain c.args.condition.now) tested
    (graph_of c.need_at.new.world) first.later
    (gives_same old nodes (graph_of c.check.new.world) (graph_of c.need_at.new.world) c.need_at.ensures.graph
    (λ types t. Has (scope_of base) types (plain c.args.condition.now) t) tested c.in_ok-tested.ensures.gives)
    (subst (λ (whole : Graph). elements_of whole tested ⊆ BuiltIn BOOL) (sym c.need_at.ensures.graph)
    (through (elements_of (graph_of c.check.new.world) tested) (elements_of (graph_of c.check.new.world) BOOL) (BuiltIn BOOL)
    c.in_ok-need_at.ensures.within (node_within (graph_of c.check.new.world) condition.more condition.begins BOOL (lit< tt))))
    (plain c.args.then_one.now) (plain c.args.else_one.now) (graph_of c.check_side.new.world) (graph_of c.check_side-2.new.world)
    (graph_of c.either.new.world) c.in_ok-one.ensures.after.later c.in_ok-one.one c.in_ok-other.other c.in_ok-one.ensures.gives
    c.in_ok-other.ensures.gives c.in_ok-either.field-0
    (type_in base (graph_of c.either.new.world) locals last.ready c.in_ok-either.field-0 c.in_ok-either.ensures.node)
    (holds_earlier (scope_of base) nodes (graph_of c.need_at.new.world) (elements_of (graph_of c.need_at.new.world) tested) true
    (plain c.args.then_one.now) (graph_of c.check_side.new.world) (graph_of c.check_side-2.new.world) (graph_of c.either.new.world)
    c.in_ok-other.ensures.after.later c.in_ok-one.ensures.after.ready.sound c.in_ok-one.one c.in_ok-one.ensures.gives c.in_ok-either.field-0
    c.in_ok-either.ensures.one)
    c.in_ok-either.ensures.other first.ready.nodes

pub test::check_short-returns-clause-after : goal.test::check_short-returns-clause-after
test::check_short-returns-clause-after t c =
    let base = c.args.base.now in
    let locals = c.args.locals.now in
    let first = after_same base locals c.args.world.now c.args.world.now c.need_at.new.world
    (after_none base locals c.args.world.now c.requires.ready) c.need_at.ensures.graph c.need_at.ensures.grows in
    let second = after_both base locals c.args.world.now c.need_at.new.world c.check_side.new.world first c.in_ok-long.ensures.after in
    let third = after_same base locals c.args.world.now c.check_side.new.world c.short_side.new.world second c.short_side.ensures.graph
    c.short_side.ensures.grows in
    after_grown base locals c.args.world.now c.short_side.new.world c.either.new.world third c.either.ensures.grows c.either.ensures.sound

pub test::check_short-returns-clause-gives : goal.test::check_short-returns-clause-gives
test::check_short-returns-clause-gives t c =
    let base = c.args.base.now in
    let locals = c.args.locals.now in
    let old = graph_of c.args.world.now in
    let nodes = seen_by base locals in
    let tested = c.args.first in
    let met = c.args.met in
    let e = plain c.args.expr.now in
    let after = after_same base locals c.args.world.now c.args.world.now c.need_at.new.world
    (after_none base locals c.args.world.now c.requires.ready) c.need_at.ensures.graph c.need_at.ensures.grows in
    let second = after_both base locals c.args.world.now c.need_at.new.world c.check_side.new.world after c.in_ok-long.ensures.after in
    let third = after_same base locals c.args.world.now c.check_side.new.world c.short_side.new.world second c.short_side.ensures.graph
    c.short_side.ensures.grows in
    let last = after_grown base locals c.args.world.now c.short_side.new.world c.either.new.world third c.either.ensures.grows
    c.either.ensures.sound in
    let result = c.in_ok-either.field-0 in
    let ready = c.requires.ready in
    let side : Side (scope_of base) nodes old (elements_of old tested) met e (graph_of c.check_side.new.world) c.in_ok-long.long =
    subst (λ (whole : Graph). Side (scope_of base) nodes whole (elements_of whole tested) met e (graph_of c.check_side.new.world) c.in_ok-long.long)
    c.need_at.ensures.graph c.in_ok-long.ensures.gives in
    short_gives (scope_of base) nodes old ready.sound ready.nodes tested
    (through (elements_of old tested) (elements_of old BOOL) (BuiltIn BOOL) c.in_ok-need_at.ensures.within
    (node_within old ready.more ready.begins BOOL (lit< tt))) e (graph_of c.check_side.new.world) (graph_of c.either.new.world) result
    (type_in base (graph_of c.either.new.world) locals last.ready result c.in_ok-either.ensures.node) met c.in_ok-long.long side
    (subst (λ (whole : Graph). HoldsSome whole (graph_of c.either.new.world) c.in_ok-long.long result) c.short_side.ensures.graph
    c.in_ok-either.ensures.other)
    (λ may. short_holds (graph_of c.check_side.new.world) (graph_of c.either.new.world) tested (truth_node base (not met)) (not met)
    c.in_ok-short.short result (truth_held base (graph_of c.check_side.new.world) locals second.ready (not met)) c.in_ok-short.ensures.side
    (subst (λ (whole : Graph). HoldsSome whole (graph_of c.either.new.world) c.in_ok-short.short result) c.short_side.ensures.graph
    c.in_ok-either.ensures.one)
    (later_in old (graph_of c.check_side.new.world) second.later ready.sound tested c.requires.first (truth (not met)) (is_truth (not met)) may))

pub test::check_side-returns-clause-gives : goal.test::check_side-returns-clause-gives
test::check_side-returns-clause-gives t c = λ may. let value = truth c.args.value in
    c.in_ok-may_be.ensures.apart c.if-branch.false value (is_truth c.args.value) may
    (subst (λ (id : NodeId). elements_of (graph_of c.args.world.now) id value) (sym c.truth.ensures)
    (truth_held c.args.base.now (graph_of c.args.world.now) c.args.locals.now c.requires.ready c.args.value value (is_truth c.args.value) refl))

pub expr::check_call-returns-in-Ok-clause-after : goal.expr::check_call-returns-in-Ok-clause-after
expr::check_call-returns-in-Ok-clause-after t c = after_grown c.args.base.now c.args.locals.now c.args.world.now c.check.new.world c.call.new.world
    c.in_ok-id.ensures.after c.call.ensures.grows c.call.ensures.sound

pub expr::check_call-returns-in-Ok-clause-gives : goal.expr::check_call-returns-in-Ok-clause-gives
expr::check_call-returns-in-Ok-clause-gives t c =
    let after = after_grown c.args.base.now c.args.locals.now c.args.world.now c.check.new.world c.call.new.world c.in_ok-id.ensures.after
    c.call.ensures.grows c.call.ensures.sound in record {
      is_type = type_in c.args.base.now (graph_of c.call.new.world) c.args.locals.now after.ready c.in-Ok.result c.in-Ok.ensures.node;
      has = λ types of. (
        typ (graph_of c.check.new.world) c.in_ok-id.id,
        c.in_ok-id.ensures.gives.is_type,
        c.in_ok-id.ensures.gives.has types of,
        c.in-Ok.ensures.least.gives,
      );
    }

pub expr::check_call-returns-in-Err-clause-fault : goal.expr::check_call-returns-in-Err-clause-fault
expr::check_call-returns-in-Err-clause-fault t c =
    let scope = scope_of c.args.base.now in
    let nodes = seen_by c.args.base.now c.args.locals.now in
    let old = graph_of c.args.world.now in
    let middle = graph_of c.check.new.world in
    let table = table_of c.call.new.world in
    let e = plain c.args.operand.now in
    let step = c.in_ok-id.ensures in
    λ here. subst (λ (error : CheckError). Fails old nodes table (λ types. KindFault scope types here (Call c.args.word e)) error)
    (sym c.placed.ensures)
    (fails_more old nodes table (λ types. WordFault scope types c.args.word e) (λ types. KindFault scope types here (Call c.args.word e))
    (λ types of at reported d is. inr is) (placed_at c.in-Err.stop _ _)
    (word_placed scope old nodes middle e c.in_ok-id.id (known scope old nodes middle e c.in_ok-id.id step.gives step.least) c.args.word table _
    (sym (place_is c.args.operand.now)) c.in-Err.stop c.in-Err.ensures.misfit))

pub operands::check_tuple-returns-clause-after : goal.operands::check_tuple-returns-clause-after
operands::check_tuple-returns-clause-after t c = after_grown c.args.base.now c.args.locals.now c.args.world.now c.check_exprs.new.world
    c.tuple.new.world c.in_ok-parts.ensures.after c.in_ok-tuple.ensures.grows c.in_ok-tuple.ensures.sound

pub operands::check_tuple-returns-clause-gives : goal.operands::check_tuple-returns-clause-gives
operands::check_tuple-returns-clause-gives t c =
    let base = c.args.base.now in
    let locals = c.args.locals.now in
    let made = graph_of c.tuple.new.world in
    let id = c.in_ok-tuple.field-0 in
    let parts = graph_of c.check_exprs.new.world in
    let ready = (after_grown base locals c.args.world.now c.check_exprs.new.world c.tuple.new.world c.in_ok-parts.ensures.after
    c.in_ok-tuple.ensures.grows c.in_ok-tuple.ensures.sound).ready in record {
      is_type = type_in base made locals ready id c.in_ok-tuple.ensures.node;
      has = λ types of. (
        map (typ parts) c.in_ok-parts.parts.items,
        c.in_ok-parts.ensures.gives.have_types types of,
        subst (λ (ids : List NodeId). IsTupleOf (map (typ parts) ids) ⊆ elements_of made id) c.as_slice.ensures.value
            c.in_ok-tuple.ensures.has,
      );
    }

pub operands::check_exprs-loop-expr-init : goal.operands::check_exprs-loop-expr-init
operands::check_exprs-loop-expr-init t c =
    let base = c.args.base.now in
    let locals = c.args.locals.now in
    let old = graph_of c.args.world.now in
    let nodes = seen_by base locals in
    let all = plain_exprs c.args.exprs.now in (
      after_none base locals c.args.world.now c.requires.ready,
      subst (λ (left : Exprs). GoesOn (HaveAll (scope_of base)) old nodes old all left c.new-parts.result.items) (sym c.items-expr-items.ensures)
          (subst (λ (ids : List NodeId). GoesOn (HaveAll (scope_of base)) old nodes old all all ids) (sym c.new-parts.ensures.items)
          (starts_on (HaveAll (scope_of base)) old nodes all)),
      subst (λ (left : Exprs). GoesOn (ExprsLeast (scope_of base)) old nodes old all left c.new-parts.result.items) (sym c.items-expr-items.ensures)
          (subst (λ (ids : List NodeId). GoesOn (ExprsLeast (scope_of base)) old nodes old all all ids) (sym c.new-parts.ensures.items)
          (starts_on (ExprsLeast (scope_of base)) old nodes all)),
      subst (λ (left : Exprs). FaultsOf (ExprsFault (scope_of base)) all left) (sym c.items-expr-items.ensures)
          (of_itself (ExprsFault (scope_of base)) all),
    )

pub operands::check_exprs-loop-expr-preserved : goal.operands::check_exprs-loop-expr-preserved
operands::check_exprs-loop-expr-preserved t c =
    let base = c.args.base.now in
    let locals = c.args.locals.now in
    let old = graph_of c.args.world.now in
    let now = graph_of c.loop-expr.world in
    let new = graph_of c.check.new.world in
    let nodes = seen_by base locals in
    let all = plain_exprs c.args.exprs.now in
    let items = c.items-expr-items.result.now in
    let index = c.loop-expr.expr-index in
    let before = c.loop-expr.invariant in
    let step = c.in_ok-id.ensures in (
      after_both base locals c.args.world.now c.loop-expr.world c.check.new.world before.0 step.after,
      subst (λ (ids : List NodeId). GoesOn (HaveAll (scope_of base)) old nodes new all (exprs_of (map plain (drop (index + 1) items))) ids)
          (sym c.in_ok-add.ensures)
          (one_expr (scope_of base) old c.requires.ready.sound nodes c.requires.ready.nodes now new before.0.later step.after.later
          all items index c.expr-item.result c.expr-item.is c.loop-expr-test.true c.loop-expr.parts.items c.in_ok-id.id before.1 step.gives),
      subst (λ (ids : List NodeId). GoesOn (ExprsLeast (scope_of base)) old nodes new all (exprs_of (map plain (drop (index + 1) items))) ids)
          (sym c.in_ok-add.ensures)
          (least_expr old c.requires.ready.sound nodes c.requires.ready.nodes now new before.0.later step.after.later (scope_of base)
          all items index c.expr-item.result c.expr-item.is c.loop-expr-test.true c.loop-expr.parts.items c.in_ok-id.id before.2
          step.gives.is_type.is_node step.least),
      past_expr (scope_of base) all items index c.expr-item.result c.expr-item.is c.loop-expr-test.true before.3,
    )

pub operands::check_exprs-returns-clause-gives : goal.operands::check_exprs-returns-clause-gives
operands::check_exprs-returns-clause-gives t c =
    let base = c.args.base.now in
    let items = c.items-expr-items.result.now in
    let index = c.loop-expr.expr-index in
    let before = c.loop-expr.invariant in record {
      are_nodes = before.1.done_nodes;
      have_types = λ types of. goes_to_end (HaveAll (scope_of base)) (graph_of c.args.world.now) (seen_by base c.args.locals.now)
          (graph_of c.loop-expr.world) before.0.ready.sound (plain_exprs c.args.exprs.now) (exprs_of (map plain (drop index items)))
          c.loop-expr.parts.items before.1 types of
          (subst (λ (rest : List CodeExpr). HaveAll (scope_of base) types (exprs_of (map plain rest)) [])
          (sym (drop_all index items c.loop-expr-test.false)) tt);
    }

pub operands::check_exprs-returns-clause-after : goal.operands::check_exprs-returns-clause-after
operands::check_exprs-returns-clause-after t c = c.loop-expr.invariant.0

pub operands::check_sequence-returns-clause-after : goal.operands::check_sequence-returns-clause-after
operands::check_sequence-returns-clause-after t c = after_grown c.args.base.now c.args.locals.now c.args.world.now c.check_items.new.world
    c.sequence.new.world c.in_ok-parts.ensures.after c.in_ok-sequence.ensures.grows c.in_ok-sequence.ensures.sound

pub operands::check_sequence-returns-clause-gives : goal.operands::check_sequence-returns-clause-gives
operands::check_sequence-returns-clause-gives t c =
    let base = c.args.base.now in
    let locals = c.args.locals.now in
    let made = graph_of c.sequence.new.world in
    let id = c.in_ok-sequence.field-0 in
    let types_of_parts = map (typ (graph_of c.check_items.new.world)) c.in_ok-parts.parts.items in
    let ready = (after_grown base locals c.args.world.now c.check_items.new.world c.sequence.new.world c.in_ok-parts.ensures.after
    c.in_ok-sequence.ensures.grows c.in_ok-sequence.ensures.sound).ready in record {
      is_type = type_in base made locals ready id c.in_ok-sequence.ensures.node;
      has = λ types of. (
        types_of_parts,
        c.in_ok-parts.ensures.gives.have_types types of,
        subst (λ (items : Items). IsSequenceOf items types_of_parts ⊆ elements_of made id) c.items.ensures c.in_ok-sequence.ensures.has,
      );
    }

pub operands::check_items-loop-item-init : goal.operands::check_items-loop-item-init
operands::check_items-loop-item-init t c =
    let base = c.args.base.now in
    let locals = c.args.locals.now in
    let old = graph_of c.args.world.now in
    let nodes = seen_by base locals in
    let all = plain_items c.args.items.now in (
      after_none base locals c.args.world.now c.requires.ready,
      subst (λ (left : Items). GoesOn (ItemsHave (scope_of base)) old nodes old all left c.new-parts.result.items) (sym c.items-item-items.ensures)
          (subst (λ (ids : List NodeId). GoesOn (ItemsHave (scope_of base)) old nodes old all all ids) (sym c.new-parts.ensures.items)
          (starts_on (ItemsHave (scope_of base)) old nodes all)),
      subst (λ (left : Items). GoesOn (ItemsLeast (scope_of base)) old nodes old all left c.new-parts.result.items) (sym c.items-item-items.ensures)
          (subst (λ (ids : List NodeId). GoesOn (ItemsLeast (scope_of base)) old nodes old all all ids) (sym c.new-parts.ensures.items)
          (starts_on (ItemsLeast (scope_of base)) old nodes all)),
      subst (λ (left : Items). FaultsOf (ItemsFault (scope_of base)) all left) (sym c.items-item-items.ensures)
          (of_itself (ItemsFault (scope_of base)) all),
    )

pub operands::check_items-loop-item-preserved : goal.operands::check_items-loop-item-preserved
operands::check_items-loop-item-preserved t c =
    let base = c.args.base.now in
    let locals = c.args.locals.now in
    let old = graph_of c.args.world.now in
    let now = graph_of c.loop-item.world in
    let new = graph_of c.check_item.new.world in
    let nodes = seen_by base locals in
    let all = plain_items c.args.items.now in
    let items = c.items-item-items.result.now in
    let index = c.loop-item.item-index in
    let before = c.loop-item.invariant in
    let step = c.in_ok-id.ensures in
    let done = c.loop-item.parts.items in
    let found = c.in_ok-id.field-0 in
    let same : c.match-branch-2.parts.items ≡ done ++ listed found = elim c.match-branch-2.branch [
      | operands::check_items-in-Some+in_ok-add w ↦ ap (λ (parts : Vec NodeId Global). parts.items) w.parts-is ∙ w.in_ok-add.ensures
          ∙ ap (λ (one : Option NodeId). done ++ listed one) (sym w.in-Some.is)
      | operands::check_items-in_default w ↦ ap (λ (parts : Vec NodeId Global). parts.items) w.parts-is ∙ sym (append-nil done)
          ∙ ap (λ (one : Option NodeId). done ++ listed one) (sym w.in_default.is)
    ] in (
      after_both base locals c.args.world.now c.loop-item.world c.check_item.new.world before.0 step.after,
      subst (λ (ids : List NodeId). GoesOn (ItemsHave (scope_of base)) old nodes new all (items_of (map plain_item (drop (index + 1) items))) ids)
          (sym same)
          (one_item (scope_of base) old c.requires.ready.sound nodes c.requires.ready.nodes now new before.0.later step.after.later
          all items index c.item-item.result c.item-item.is c.loop-item-test.true done (listed found) before.1 step.gives),
      subst (λ (ids : List NodeId). GoesOn (ItemsLeast (scope_of base)) old nodes new all (items_of (map plain_item (drop (index + 1) items))) ids)
          (sym same)
          (least_item old c.requires.ready.sound nodes c.requires.ready.nodes now new before.0.later step.after.later (scope_of base)
          all items index c.item-item.result c.item-item.is c.loop-item-test.true done (listed found) before.2 step.least),
      past_item (scope_of base) all items index c.item-item.result c.item-item.is c.loop-item-test.true before.3,
    )

pub operands::check_items-returns-clause-gives : goal.operands::check_items-returns-clause-gives
operands::check_items-returns-clause-gives t c =
    let base = c.args.base.now in
    let items = c.items-item-items.result.now in
    let index = c.loop-item.item-index in
    let before = c.loop-item.invariant in record {
      are_nodes = before.1.done_nodes;
      have_types = λ types of. goes_to_end (ItemsHave (scope_of base)) (graph_of c.args.world.now) (seen_by base c.args.locals.now)
          (graph_of c.loop-item.world) before.0.ready.sound (plain_items c.args.items.now) (items_of (map plain_item (drop index items)))
          c.loop-item.parts.items before.1 types of
          (subst (λ (rest : List CodeItem). ItemsHave (scope_of base) types (items_of (map plain_item rest)) [])
          (sym (drop_all index items c.loop-item-test.false)) tt);
    }

pub operands::check_items-returns-clause-after : goal.operands::check_items-returns-clause-after
operands::check_items-returns-clause-after t c = c.loop-item.invariant.0

pub operands::check_item-returns-in_ok-check-in-One-clause-gives : goal.operands::check_item-returns-in_ok-check-in-One-clause-gives
operands::check_item-returns-in_ok-check-in-One-clause-gives t c =
    let scope = scope_of c.args.base.now in
    let nodes = seen_by c.args.base.now c.args.locals.now in
    let old = graph_of c.args.world.now in
    let new = graph_of c.check.new.world in
    let id = c.in_ok-check-in-One.field-0 in
    let step = c.in_ok-check-in-One.ensures in
    let e = plain c.deref.result.now in
    let same : plain_item c.args.item.now ≡ One e = ap plain_item c.in-One.is ∙ item_one c.in-One.expr
    ∙ ap (λ (is : CodeExpr). One (plain is)) (sym c.deref.ensures) in
    λ rest. subst (λ (item : Item). Steps (ItemsHave scope) old nodes new (AnItem item rest) rest (id ∷ [])) (sym same)
    (item_steps scope old nodes new step.after.ready.sound e id step.gives rest)

pub operands::check_item-returns-in_ok-need_at-in-Splice-clause-gives : goal.operands::check_item-returns-in_ok-need_at-in-Splice-clause-gives
operands::check_item-returns-in_ok-need_at-in-Splice-clause-gives t c =
    let scope = scope_of c.args.base.now in
    let nodes = seen_by c.args.base.now c.args.locals.now in
    let old = graph_of c.args.world.now in
    let middle = graph_of c.check-in-Splice.new.world in
    let id = c.in_ok-id-in-Splice.id in
    let step = c.in_ok-id-in-Splice.ensures in
    let e = plain c.deref-in-Splice.result.now in
    let sequences = c.args.base.now.tools.sequences in
    let same : plain_item c.args.item.now ≡ Splice e = ap plain_item c.in-Splice.is ∙ item_splice c.in-Splice.expr
    ∙ ap (λ (is : CodeExpr). Splice (plain is)) (sym c.deref-in-Splice.ensures) in
    λ rest. subst (λ (g : Graph). Steps (ItemsHave scope) old nodes g (AnItem (plain_item c.args.item.now) rest) rest (id ∷ []))
    (sym c.in_ok-need_at-in-Splice.ensures.graph)
    (subst (λ (item : Item). Steps (ItemsHave scope) old nodes middle (AnItem item rest) rest (id ∷ [])) (sym same)
    (splice_steps scope old nodes middle step.after.ready.sound e id step.gives
    (through (elements_of middle id) (elements_of middle sequences) IsSequence c.in_ok-need_at-in-Splice.ensures.within
    step.after.ready.tools.are_sequences) rest))

pub operands::check_record-record-requires-clause-labels : goal.operands::check_record-record-requires-clause-labels
operands::check_record-record-requires-clause-labels t c = subst (λ (fields : Fields). AreLabels fields) (sym c.items.ensures)
    (are_labels (program_of c.args.base.now) (names_seen c.args.base.now c.args.locals.now) (plain_fields c.args.fields.now)
    c.requires.sound)

pub operands::check_record-record-requires-clause-differ : goal.operands::check_record-record-requires-clause-differ
operands::check_record-record-requires-clause-differ t c = subst (λ (fields : Fields). AreOnce (labels_of fields)) (sym c.items.ensures)
    (are_once (program_of c.args.base.now) (names_seen c.args.base.now c.args.locals.now) (plain_fields c.args.fields.now)
    c.requires.sound)

pub operands::check_record-record-requires-clause-count : goal.operands::check_record-record-requires-clause-count
operands::check_record-record-requires-clause-count t c =
    let scope = scope_of c.args.base.now in
    let items = c.items.result.now in
    let ids = c.in_ok-parts.parts.items in
    let new = graph_of c.check_fields.new.world in
    ap (λ (all : List NodeId). length all) c.as_slice.ensures.value
    ∙ parts_count scope (graph_of c.args.world.now) new (seen_by c.args.base.now c.args.locals.now) (map plain_field items) ids
    (λ types of. subst (λ (fields : Fields). FieldsHave scope types fields (map (typ new) ids)) (sym c.items.ensures)
    (c.in_ok-parts.ensures.gives.have_types types of))
    ∙ length-map items plain_field

pub operands::check_record-returns-clause-after : goal.operands::check_record-returns-clause-after
operands::check_record-returns-clause-after t c = after_grown c.args.base.now c.args.locals.now c.args.world.now c.check_fields.new.world
    c.record.new.world c.in_ok-parts.ensures.after c.in_ok-record.ensures.grows c.in_ok-record.ensures.sound

pub operands::check_record-returns-clause-gives : goal.operands::check_record-returns-clause-gives
operands::check_record-returns-clause-gives t c =
    let base = c.args.base.now in
    let locals = c.args.locals.now in
    let made = graph_of c.record.new.world in
    let id = c.in_ok-record.field-0 in
    let parts = graph_of c.check_fields.new.world in
    let ids = c.in_ok-parts.parts.items in
    let ready = (after_grown base locals c.args.world.now c.check_fields.new.world c.record.new.world c.in_ok-parts.ensures.after
    c.in_ok-record.ensures.grows c.in_ok-record.ensures.sound).ready in record {
      is_type = type_in base made locals ready id c.in_ok-record.ensures.node;
      has = λ types of. (
        map (typ parts) ids,
        c.in_ok-parts.ensures.gives.have_types types of,
        subst (λ (fields : Fields). IsRecordOf fields (map (typ parts) ids) ⊆ elements_of made id) c.items.ensures
            (subst (λ (all : List NodeId). IsRecordOf (fields_of (map plain_field c.items.result.now)) (map (typ parts) all)
            ⊆ elements_of made id) c.as_slice.ensures.value c.in_ok-record.ensures.has),
      );
    }

pub operands::check_fields-loop-field-init : goal.operands::check_fields-loop-field-init
operands::check_fields-loop-field-init t c =
    let base = c.args.base.now in
    let locals = c.args.locals.now in
    let old = graph_of c.args.world.now in
    let nodes = seen_by base locals in
    let all = plain_fields c.args.fields.now in (
      after_none base locals c.args.world.now c.requires.ready,
      subst (λ (left : Fields). GoesOn (FieldsHave (scope_of base)) old nodes old all left c.new-parts.result.items) (sym c.items-field-items.ensures)
          (subst (λ (ids : List NodeId). GoesOn (FieldsHave (scope_of base)) old nodes old all all ids) (sym c.new-parts.ensures.items)
          (starts_on (FieldsHave (scope_of base)) old nodes all)),
      subst (λ (left : Fields). GoesOn (FieldsLeast (scope_of base)) old nodes old all left c.new-parts.result.items)
          (sym c.items-field-items.ensures)
          (subst (λ (ids : List NodeId). GoesOn (FieldsLeast (scope_of base)) old nodes old all all ids) (sym c.new-parts.ensures.items)
          (starts_on (FieldsLeast (scope_of base)) old nodes all)),
      subst (λ (left : Fields). FaultsOf (FieldsFault (scope_of base)) all left) (sym c.items-field-items.ensures)
          (of_itself (FieldsFault (scope_of base)) all),
    )

pub operands::check_fields-loop-field-preserved : goal.operands::check_fields-loop-field-preserved
operands::check_fields-loop-field-preserved t c =
    let base = c.args.base.now in
    let locals = c.args.locals.now in
    let old = graph_of c.args.world.now in
    let now = graph_of c.loop-field.world in
    let new = graph_of c.check.new.world in
    let nodes = seen_by base locals in
    let all = plain_fields c.args.fields.now in
    let items = c.items-field-items.result.now in
    let index = c.loop-field.field-index in
    let before = c.loop-field.invariant in
    let step = c.in_ok-id.ensures in (
      after_both base locals c.args.world.now c.loop-field.world c.check.new.world before.0 step.after,
      subst (λ (ids : List NodeId). GoesOn (FieldsHave (scope_of base)) old nodes new all (fields_of (map plain_field (drop (index + 1) items))) ids)
          (sym c.in_ok-add.ensures)
          (one_field (scope_of base) old c.requires.ready.sound nodes c.requires.ready.nodes now new before.0.later step.after.later
          all items index c.field-item.result c.field-item.is c.loop-field-test.true c.loop-field.parts.items c.in_ok-id.id before.1
          (subst (λ (e : Expr). Gives now nodes new (λ types t. Has (scope_of base) types e t) c.in_ok-id.id)
          (sym (field_expr c.field-item.result)) step.gives)),
      subst (λ (ids : List NodeId). GoesOn (FieldsLeast (scope_of base)) old nodes new all (fields_of (map plain_field (drop (index + 1) items))) ids)
          (sym c.in_ok-add.ensures)
          (least_field old c.requires.ready.sound nodes c.requires.ready.nodes now new before.0.later step.after.later (scope_of base)
          all items index c.field-item.result c.field-item.is c.loop-field-test.true c.loop-field.parts.items c.in_ok-id.id before.2
          step.gives.is_type.is_node
          (subst (λ (e : Expr). IsBelow now nodes new (λ types t. Has (scope_of base) types e t) c.in_ok-id.id)
          (sym (field_expr c.field-item.result)) step.least)),
      past_field (scope_of base) all items index c.field-item.result c.field-item.is c.loop-field-test.true before.3,
    )

pub operands::check_fields-returns-clause-gives : goal.operands::check_fields-returns-clause-gives
operands::check_fields-returns-clause-gives t c =
    let base = c.args.base.now in
    let items = c.items-field-items.result.now in
    let index = c.loop-field.field-index in
    let before = c.loop-field.invariant in record {
      are_nodes = before.1.done_nodes;
      have_types = λ types of. goes_to_end (FieldsHave (scope_of base)) (graph_of c.args.world.now) (seen_by base c.args.locals.now)
          (graph_of c.loop-field.world) before.0.ready.sound (plain_fields c.args.fields.now) (fields_of (map plain_field (drop index items)))
          c.loop-field.parts.items before.1 types of
          (subst (λ (rest : List CodeField). FieldsHave (scope_of base) types (fields_of (map plain_field rest)) [])
          (sym (drop_all index items c.loop-field-test.false)) tt);
    }

pub operands::check_fields-returns-clause-after : goal.operands::check_fields-returns-clause-after
operands::check_fields-returns-clause-after t c = c.loop-field.invariant.0

pub operands::check_xml-returns-clause-after : goal.operands::check_xml-returns-clause-after
operands::check_xml-returns-clause-after t c =
    let base = c.args.base.now in
    let locals = c.args.locals.now in
    after_grown base locals c.args.world.now c.need_at-2.new.world c.xml.new.world
    (after_same base locals c.args.world.now c.need_at.new.world c.need_at-2.new.world
    (after_same base locals c.args.world.now c.check-3.new.world c.need_at.new.world
    (after_both base locals c.args.world.now c.check-2.new.world c.check-3.new.world
    (after_both base locals c.args.world.now c.check.new.world c.check-2.new.world c.in_ok-first.ensures.after c.in_ok-second.ensures.after)
    c.in_ok-third.ensures.after) c.in_ok-need_at.ensures.graph c.in_ok-need_at.ensures.grows) c.in_ok-need_at-2.ensures.graph
    c.in_ok-need_at-2.ensures.grows) c.in_ok-xml.ensures.grows c.in_ok-xml.ensures.sound

pub operands::check_xml-returns-clause-gives : goal.operands::check_xml-returns-clause-gives
operands::check_xml-returns-clause-gives t c =
    let base = c.args.base.now in
    let locals = c.args.locals.now in
    let old = graph_of c.args.world.now in
    let first = graph_of c.check.new.world in
    let second = graph_of c.check-2.new.world in
    let third = graph_of c.check-3.new.world in
    let last = graph_of c.xml.new.world in
    let tag = c.in_ok-first.first in
    let attributes = c.in_ok-second.second in
    let content = c.in_ok-third.third in
    let made = c.in_ok-xml.field-0 in
    let ready = c.in_ok-third.ensures.after.ready in
    let same = c.in_ok-need_at.ensures.graph in
    let both_same = c.in_ok-need_at-2.ensures.graph ∙ same in
    let new = (after_grown base locals c.check-3.new.world c.need_at-2.new.world c.xml.new.world
    (after_same base locals c.check-3.new.world c.need_at.new.world c.need_at-2.new.world
    (after_same base locals c.check-3.new.world c.check-3.new.world c.need_at.new.world (after_none base locals c.check-3.new.world ready) same
    c.in_ok-need_at.ensures.grows) c.in_ok-need_at-2.ensures.graph c.in_ok-need_at-2.ensures.grows) c.in_ok-xml.ensures.grows
    c.in_ok-xml.ensures.sound).ready in
    xml_gives (scope_of base) (seen_by base locals) old first second third last c.requires.ready.sound c.requires.ready.nodes
    c.in_ok-first.ensures.after.later c.in_ok-second.ensures.after.later c.in_ok-third.ensures.after.later
    (plain c.args.tag.now) (plain c.args.attributes.now) (plain c.args.content.now) tag attributes content made
    c.in_ok-first.ensures.gives c.in_ok-second.ensures.gives c.in_ok-third.ensures.gives
    (within_atom base third locals ready tag c.in_ok-need_at.ensures.within)
    (within_record base third locals ready attributes (subst (λ (g : Graph). elements_of g attributes ⊆ elements_of g RECORD) same
    c.in_ok-need_at-2.ensures.within))
    (subst (λ (g : Graph). IsXmlOf (elements_of g tag) (elements_of g attributes) (elements_of g content) ⊆ elements_of last made)
    both_same c.in_ok-xml.ensures.has)
    (type_in base last locals new made c.in_ok-xml.ensures.node)

pub expr::check_kind-unreachable-requires : goal.expr::check_kind-unreachable-requires
expr::check_kind-unreachable-requires t c =
    let base = c.args.base.now in
    let locals = c.args.locals.now in
    let name = c.in-Variable.name in
    seen_has_node (seen_by base locals) name
    (subst (λ (kind : Kind). KindIsSound (program_of base) (names_seen base locals) kind)
    (ap plain_kind c.in-Variable.is ∙ kind_variable name) c.requires.sound)
    (sym c.find.ensures ∙ c.in-None.is)

pub expr::check_kind-returns-in_ok-constant_node-in-Constant-clause-after : goal.expr::check_kind-returns-in_ok-constant_node-in-Constant-clause-after
expr::check_kind-returns-in_ok-constant_node-in-Constant-clause-after t c =
    let base = c.args.base.now in
    let locals = c.args.locals.now in
    let step = c.in_ok-constant_node-in-Constant.ensures in
    after_start base locals c.args.world.now c.constant_node.new.world c.requires.ready step.grows step.sound

pub expr::check_kind-returns-in_ok-constant_node-in-Constant-clause-gives : goal.expr::check_kind-returns-in_ok-constant_node-in-Constant-clause-gives
expr::check_kind-returns-in_ok-constant_node-in-Constant-clause-gives t c =
    let base = c.args.base.now in
    let locals = c.args.locals.now in
    let old = graph_of c.args.world.now in
    let new = graph_of c.constant_node.new.world in
    let id = c.in_ok-constant_node-in-Constant.field-0 in
    let step = c.in_ok-constant_node-in-Constant.ensures in
    let ready = (after_start base locals c.args.world.now c.constant_node.new.world c.requires.ready step.grows step.sound).ready in
    subst (λ (kind : Kind). Gives old (seen_by base locals) new (λ types t. KindHas (scope_of base) types kind t) id)
    (sym (ap plain_kind c.in-Constant.is ∙ kind_constant c.in-Constant.is'))
    (record { is_type = type_in base new locals ready id step.node; has = λ types of. step.has })

pub expr::check_kind-returns-in-Some-clause-gives : goal.expr::check_kind-returns-in-Some-clause-gives
expr::check_kind-returns-in-Some-clause-gives t c =
    let base = c.args.base.now in
    let locals = c.args.locals.now in
    let old = graph_of c.args.world.now in
    let nodes = seen_by base locals in
    let ready = c.requires.ready in
    let name = c.in-Variable.name in
    let id = c.in-Some.id in
    let at = sym c.find.ensures ∙ c.in-Some.is in
    subst (λ (kind : Kind). Gives old nodes old (λ types t. KindHas (scope_of base) types kind t) id)
    (sym (ap plain_kind c.in-Variable.is ∙ kind_variable name))
    (record {
      is_type = type_in base old locals ready id (node_below old nodes ready.nodes name id at);
      has = λ types of. variable_has old nodes types of name id at;
    })

pub chain::check_apply-returns-clause-gives : goal.chain::check_apply-returns-clause-gives
chain::check_apply-returns-clause-gives t c =
    let old = graph_of c.args.world.now in
    let first = graph_of c.check.new.world in
    let new = graph_of c.check_arguments.new.world in
    let nodes = seen_by c.args.base.now c.args.locals.now in
    let function = c.in_ok-id-in-len1-up.id in
    let step = c.in_ok-id-in-len1-up.ensures in
    let items = c.items.result.now in
    let count = length-drop 1 items in
    let whole : items ≡ c.function-item.result ∷ take (length items - 1) (drop 1 items) =
    left_is items 0 c.function-item.result c.function-item.is c.in-len1-up.len_at_least
    ∙ ap (λ (rest : List CodeExpr). c.function-item.result ∷ rest)
    (sym (take_all (length items - 1) (drop 1 items) (omega (arith, count)))) in
    IfOk-weaker c.check_arguments.result _ _
    (λ id gives. record {
      is_type = gives.is_type;
      has = λ types of. subst (λ (exprs : Exprs). ApplyHas (scope_of c.args.base.now) types exprs (typ new id))
          (ap (λ (all : List CodeExpr). exprs_of (map plain all)) (sym whole) ∙ c.items.ensures) (
            typ first function,
            step.gives.is_type,
            step.gives.has types of,
            gives.has types (types_later old first step.after.later c.requires.ready.sound nodes c.requires.ready.nodes types of),
          );
    })
    c.check_arguments.ensures.gives

pub chain::check_arguments-loop-argument-init : goal.chain::check_arguments-loop-argument-init
chain::check_arguments-loop-argument-init t c =
    let base = c.args.base.now in
    let locals = c.args.locals.now in
    let old = graph_of c.args.world.now in (
      after_none base locals c.args.world.now c.requires.ready,
      record { is_type = type_in base old locals c.requires.ready c.args.function c.requires.function; leads = λ types of t has. has },
      narrows_first (ArgumentsHave (scope_of base)) (seen_by base locals) old (exprs_of (map plain c.args.arguments.now)) c.args.function,
      λ f stands. faults_first (scope_of base) (seen_by base locals) old c.requires.ready.sound c.requires.ready.nodes
          (λ types one rest. ArgumentsFault (scope_of base) types c.args.at one rest) f (exprs_of (map plain c.args.arguments.now))
          c.args.function c.args.from stands,
    )

pub chain::check_arguments-loop-argument-preserved : goal.chain::check_arguments-loop-argument-preserved
chain::check_arguments-loop-argument-preserved t c =
    let base = c.args.base.now in
    let locals = c.args.locals.now in
    let old = graph_of c.args.world.now in
    let now = graph_of c.loop-argument.world in
    let new = graph_of c.check_argument.new.world in
    let before = c.loop-argument.invariant in
    let step = c.in_ok-id.ensures in
    let items = c.args.arguments.now in (
      after_both base locals c.args.world.now c.loop-argument.world c.check_argument.new.world before.0 step.after,
      one_argument (scope_of base) old c.requires.ready.sound (seen_by base locals) c.requires.ready.nodes now new before.0.later
          step.after.later (typ old c.args.function) c.loop-argument.id c.in_ok-id.id (exprs_of (map plain items)) items
          c.loop-argument.argument-index c.argument-item.result c.argument-item.is c.loop-argument-test.true before.1 step.gives,
      one_argument_narrows (scope_of base) (seen_by base locals) old (typ old c.args.function) c.requires.ready.sound c.requires.ready.nodes now
          new before.0.later c.loop-argument.id c.in_ok-id.id (exprs_of (map plain items)) items c.loop-argument.argument-index
          c.argument-item.result c.argument-item.is c.loop-argument-test.true before.2 step.least,
      λ f stands. one_argument_faults (scope_of base) (seen_by base locals) old c.requires.ready.sound c.requires.ready.nodes now before.0.later
          c.args.at f c.loop-argument.id c.loop-argument.place new c.in_ok-id.id (exprs_of (map plain items)) items
          c.loop-argument.argument-index c.argument-item.result c.argument-item.is c.loop-argument-test.true (before.3 f stands) step.gives
          step.least,
    )

pub chain::check_arguments-returns-clause-gives : goal.chain::check_arguments-returns-clause-gives
chain::check_arguments-returns-clause-gives t c =
    let scope = scope_of c.args.base.now in
    let items = c.args.arguments.now in
    let index = c.loop-argument.argument-index in
    let result = typ (graph_of c.loop-argument.world) c.loop-argument.id in
    let before = c.loop-argument.invariant.1 in record {
      is_type = before.is_type;
      has = λ types of. before.leads types of result
          (subst (λ (rest : List CodeExpr). ArgumentsHave scope types result (exprs_of (map plain rest)) result)
          (sym (drop_all index items c.loop-argument-test.false)) (itself (elements_of result.graph result.id)));
    }

pub chain::check_arguments-returns-clause-after : goal.chain::check_arguments-returns-clause-after
chain::check_arguments-returns-clause-after t c = c.loop-argument.invariant.0

pub chain::check_argument-returns-in-Results-clause-after : goal.chain::check_argument-returns-in-Results-clause-after
chain::check_argument-returns-in-Results-clause-after t c = after_grown c.args.base.now c.args.locals.now c.args.world.now c.check.new.world
    c.apply.new.world c.in_ok-id.ensures.after c.in_ok-results.ensures.grows c.in_ok-results.ensures.sound

pub chain::check_argument-returns-in-Results-clause-gives : goal.chain::check_argument-returns-in-Results-clause-gives
chain::check_argument-returns-in-Results-clause-gives t c =
    let base = c.args.base.now in
    let locals = c.args.locals.now in
    let old = graph_of c.args.world.now in
    let middle = graph_of c.check.new.world in
    let new = graph_of c.apply.new.world in
    let id = c.in_ok-id.id in
    let results = c.in-Results.results in
    let step = c.in_ok-id.ensures in
    let ready = (after_grown base locals c.args.world.now c.check.new.world c.apply.new.world step.after c.in_ok-results.ensures.grows
    c.in_ok-results.ensures.sound).ready in
    argument_follows (scope_of base) old (seen_by base locals) c.requires.ready.sound c.args.function c.requires.function middle
    step.after.later new (plain c.args.argument.now) id step.gives results
    (type_in base new locals ready results
    (subst (λ (applied : Applied). IsResultNode new applied) c.in-Results.is c.in_ok-results.ensures.node))
    (subst (λ (applied : Applied). AreMappedInto middle c.args.function id new applied) c.in-Results.is c.in_ok-results.ensures.into)

pub chain::check_chain-returns-clause-gives : goal.chain::check_chain-returns-clause-gives
chain::check_chain-returns-clause-gives t c =
    let old = graph_of c.args.world.now in
    let first = graph_of c.check.new.world in
    let nodes = seen_by c.args.base.now c.args.locals.now in
    let step = c.in_ok-id.ensures in
    IfOk-weaker c.check_tails.result _ _
    (λ result gives. record {
      is_type = gives.is_type;
      has = λ types of. (
        typ first c.in_ok-id.id,
        step.gives.is_type,
        step.gives.has types of,
        gives.has types (types_later old first step.after.later c.requires.ready.sound nodes c.requires.ready.nodes types of),
      );
    })
    c.check_tails.ensures.gives

pub chain::check_chain-returns-clause-after : goal.chain::check_chain-returns-clause-after
chain::check_chain-returns-clause-after t c = after_both c.args.base.now c.args.locals.now c.args.world.now c.check.new.world c.check_tails.new.world
    c.in_ok-id.ensures.after c.check_tails.ensures.after

pub chain::check_tails-loop-tail-init : goal.chain::check_tails-loop-tail-init
chain::check_tails-loop-tail-init t c =
    let base = c.args.base.now in
    let locals = c.args.locals.now in
    let old = graph_of c.args.world.now in
    let all = plain_tails c.args.tails.now in (
      after_none base locals c.args.world.now c.requires.ready,
      subst (λ (left : Tails). LeadsOn (TailsHave (scope_of base)) old (seen_by base locals) (typ old c.args.first) old all left c.args.first)
          (sym c.items-tail-items.ensures)
          (record { is_type = type_in base old locals c.requires.ready c.args.first c.requires.first; leads = λ types of t has. has }),
      subst (λ (left : Tails). NarrowsOn (TailsHave (scope_of base)) old (seen_by base locals) (typ old c.args.first) old all left c.args.first)
          (sym c.items-tail-items.ensures) (narrows_first (TailsHave (scope_of base)) (seen_by base locals) old all c.args.first),
      λ f stands. subst (λ (left : Tails). FaultsOn (scope_of base) (λ types one rest. TailsFault (scope_of base) types c.args.at one rest) old
          (seen_by base locals) f old all left c.args.first c.args.from) (sym c.items-tail-items.ensures)
          (faults_first (scope_of base) (seen_by base locals) old c.requires.ready.sound c.requires.ready.nodes
          (λ types one rest. TailsFault (scope_of base) types c.args.at one rest) f all c.args.first c.args.from stands),
    )

pub chain::check_tails-loop-tail-preserved : goal.chain::check_tails-loop-tail-preserved
chain::check_tails-loop-tail-preserved t c =
    let base = c.args.base.now in
    let locals = c.args.locals.now in
    let nodes = seen_by base locals in
    let old = graph_of c.args.world.now in
    let now = graph_of c.loop-tail.world in
    let new = graph_of c.check_tail.new.world in
    let before = c.loop-tail.invariant in
    let step = c.in_ok-id.ensures in
    let id = c.in_ok-id.id in (
      after_both base locals c.args.world.now c.loop-tail.world c.check_tail.new.world before.0 step.after,
      one_tail (scope_of base) old c.requires.ready.sound nodes c.requires.ready.nodes now new before.0.later step.after.later
          (typ old c.args.first) c.loop-tail.id id (plain_tails c.args.tails.now) c.items-tail-items.result.now c.loop-tail.tail-index
          c.tail-item.result c.tail-item.is c.loop-tail-test.true before.1
          (λ rest. tail_follows (scope_of base) now nodes new c.loop-tail.id id (plain_tail c.tail-item.result) rest step.gives.is_type
          step.gives.has),
      one_tail_narrows (scope_of base) nodes old (typ old c.args.first) c.requires.ready.sound c.requires.ready.nodes now new before.0.later
          c.loop-tail.id id (plain_tails c.args.tails.now) c.items-tail-items.result.now c.loop-tail.tail-index c.tail-item.result c.tail-item.is
          c.loop-tail-test.true before.2 step.least,
      λ f stands. one_tail_faults (scope_of base) nodes old c.requires.ready.sound c.requires.ready.nodes now before.0.later c.args.at f
          c.loop-tail.id c.loop-tail.place new id (plain_tails c.args.tails.now) c.items-tail-items.result.now c.loop-tail.tail-index
          c.tail-item.result c.tail-item.is c.loop-tail-test.true (before.3 f stands) step.gives step.least,
    )

pub chain::check_tails-returns-clause-gives : goal.chain::check_tails-returns-clause-gives
chain::check_tails-returns-clause-gives t c =
    let scope = scope_of c.args.base.now in
    let items = c.items-tail-items.result.now in
    let index = c.loop-tail.tail-index in
    let result = typ (graph_of c.loop-tail.world) c.loop-tail.id in
    let before = c.loop-tail.invariant.1 in record {
      is_type = before.is_type;
      has = λ types of. before.leads types of result
          (subst (λ (rest : List CodeTail). TailsHave scope types result (tails_of (map plain_tail rest)) result)
          (sym (drop_all index items c.loop-tail-test.false)) (itself (elements_of result.graph result.id)));
    }

pub chain::check_tails-returns-clause-after : goal.chain::check_tails-returns-clause-after
chain::check_tails-returns-clause-after t c = c.loop-tail.invariant.0

pub chain::check_tail-returns-in-Ok-clause-after : goal.chain::check_tail-returns-in-Ok-clause-after
chain::check_tail-returns-in-Ok-clause-after t c =
    let base = c.args.base.now in
    let locals = c.args.locals.now in
    after_start base locals c.args.world.now c.drop_field.new.world c.requires.ready c.in-Ok.ensures.grows c.in-Ok.ensures.sound

pub chain::check_tail-returns-in-Ok-clause-gives : goal.chain::check_tail-returns-in-Ok-clause-gives
chain::check_tail-returns-in-Ok-clause-gives t c =
    let base = c.args.base.now in
    let locals = c.args.locals.now in
    let old = graph_of c.args.world.now in
    let new = graph_of c.drop_field.new.world in
    let id = c.in-Ok.id in
    let is = c.in-Ok.ensures in
    let ready = (after_start base locals c.args.world.now c.drop_field.new.world c.requires.ready is.grows is.sound).ready in
    subst (λ (tail : Tail). Gives old (seen_by base locals) new (λ types t. TailHas (scope_of base) types (typ old c.args.first) tail t) id)
    (sym (ap plain_tail c.in-Without.is ∙ tail_without c.in-Without.label))
    (record { is_type = type_in base new locals ready id is.node; has = λ types of. (is.records, is.gives) })

pub chain::check_tail-returns-in-Err-clause-fault : goal.chain::check_tail-returns-in-Err-clause-fault
chain::check_tail-returns-in-Err-clause-fault t c =
    let base = c.args.base.now in
    let locals = c.args.locals.now in
    let old = graph_of c.args.world.now in
    let table = table_of c.drop_field.new.world in
    let stop = c.in-Err.stop in
    subst (λ (tail : Tail). TailFails base old locals table c.args.first c.args.at tail c.placed.result)
    (sym (ap plain_tail c.in-Without.is ∙ tail_without c.in-Without.label))
    (subst (TailFails base old locals table c.args.first c.args.at (Without c.in-Without.label)) (sym c.placed.ensures)
    (λ f stands. part_fails (scope_of base) old (seen_by base locals) old table f c.args.first stands.0 c.args.at (sym stands.1)
    (BuiltIn RECORD) rule.Record stop c.in-Err.ensures.misfit))

pub chain::check_tail-returns-in-Ok-take_field-clause-after : goal.chain::check_tail-returns-in-Ok-take_field-clause-after
chain::check_tail-returns-in-Ok-take_field-clause-after t c =
    let base = c.args.base.now in
    let locals = c.args.locals.now in
    after_start base locals c.args.world.now c.take_field.new.world c.requires.ready c.in-Ok-take_field.ensures.grows c.in-Ok-take_field.ensures.sound

pub chain::check_tail-returns-in-Ok-take_field-clause-gives : goal.chain::check_tail-returns-in-Ok-take_field-clause-gives
chain::check_tail-returns-in-Ok-take_field-clause-gives t c =
    let base = c.args.base.now in
    let locals = c.args.locals.now in
    let old = graph_of c.args.world.now in
    let new = graph_of c.take_field.new.world in
    let id = c.in-Ok-take_field.id in
    let is = c.in-Ok-take_field.ensures in
    let ready = (after_start base locals c.args.world.now c.take_field.new.world c.requires.ready is.grows is.sound).ready in
    subst (λ (tail : Tail). Gives old (seen_by base locals) new (λ types t. TailHas (scope_of base) types (typ old c.args.first) tail t) id)
    (sym (ap plain_tail c.in-Select.is ∙ tail_select c.in-Select.label))
    (record { is_type = type_in base new locals ready id is.node; has = λ types of. (is.have, is.gives) })

pub chain::check_tail-returns-in-Err-take_field-clause-fault : goal.chain::check_tail-returns-in-Err-take_field-clause-fault
chain::check_tail-returns-in-Err-take_field-clause-fault t c =
    let base = c.args.base.now in
    let locals = c.args.locals.now in
    let old = graph_of c.args.world.now in
    let table = table_of c.take_field.new.world in
    let stop = c.in-Err-take_field.stop in
    subst (λ (tail : Tail). TailFails base old locals table c.args.first c.args.at tail c.placed-in-Err-take_field.result)
    (sym (ap plain_tail c.in-Select.is ∙ tail_select c.in-Select.label))
    (subst (TailFails base old locals table c.args.first c.args.at (Select c.in-Select.label)) (sym c.placed-in-Err-take_field.ensures)
    (λ f stands. part_fails (scope_of base) old (seen_by base locals) old table f c.args.first stands.0 c.args.at (sym stands.1)
    (HasFieldAt c.in-Select.label) rule.Field stop c.in-Err-take_field.ensures.misfit))

pub chain::check_operand-returns-in-Ok-clause-after : goal.chain::check_operand-returns-in-Ok-clause-after
chain::check_operand-returns-in-Ok-clause-after t c = after_grown c.args.base.now c.args.locals.now c.args.world.now c.check.new.world
    c.operate.new.world c.in_ok-second.ensures.after c.operate.ensures.grows c.operate.ensures.sound

pub chain::check_operand-returns-in-Ok-clause-gives : goal.chain::check_operand-returns-in-Ok-clause-gives
chain::check_operand-returns-in-Ok-clause-gives t c =
    let base = c.args.base.now in
    let locals = c.args.locals.now in
    let old = graph_of c.args.world.now in
    let middle = graph_of c.check.new.world in
    let new = graph_of c.operate.new.world in
    let step = c.in_ok-second.ensures in
    let ready = (after_grown base locals c.args.world.now c.check.new.world c.operate.new.world step.after c.operate.ensures.grows
    c.operate.ensures.sound).ready in
    operand_gives (scope_of base) old (seen_by base locals) c.requires.ready.sound c.args.first c.requires.first middle step.after.later new
    (plain c.args.expr.now) c.in_ok-second.second step.gives c.args.op c.requires.met c.in-Ok.id
    (type_in base new locals ready c.in-Ok.id c.in-Ok.ensures.node) c.in-Ok.ensures.least.gives

pub chain::check_operand-returns-in-Err-clause-fault : goal.chain::check_operand-returns-in-Err-clause-fault
chain::check_operand-returns-in-Err-clause-fault t c =
    let base = c.args.base.now in
    let locals = c.args.locals.now in
    let nodes = seen_by base locals in
    let old = graph_of c.args.world.now in
    let middle = graph_of c.check.new.world in
    let table = table_of c.operate.new.world in
    let e = plain c.args.expr.now in
    let step = c.in_ok-second.ensures in
    let second = c.in_ok-second.second in
    subst (TailFails base old locals table c.args.first c.args.at (Operand c.args.op e)) (sym c.placed.ensures)
    (λ f stands. operand_fails (scope_of base) old nodes middle table f e c.args.first second
    (known_later (scope_of base) old nodes old middle step.after.later c.requires.ready.sound f c.args.first stands.0)
    (known (scope_of base) old nodes middle e second step.gives step.least) c.args.at (out-Expr c.args.expr.now).span.from
    (sym stands.1) (sym (place_is c.args.expr.now)) c.args.op c.requires.met c.in-Err.stop c.in-Err.ensures.misfit)

pub branches::check_match-returns-clause-after : goal.branches::check_match-returns-clause-after
branches::check_match-returns-clause-after t c = after_both c.args.base.now c.args.locals.now c.args.world.now c.check.new.world
    c.check_covering.new.world
    c.in_ok-matched.ensures.after c.check_covering.ensures.after

pub branches::check_match-returns-clause-gives : goal.branches::check_match-returns-clause-gives
branches::check_match-returns-clause-gives t c = IfOk-weaker c.check_covering.result _ _
    (λ id gives. match_gives (scope_of c.args.base.now) (graph_of c.args.world.now) c.requires.ready.sound
    (seen_by c.args.base.now c.args.locals.now) c.requires.ready.nodes
    (plain c.args.value.now) c.in_ok-matched.matched (graph_of c.check.new.world) c.in_ok-matched.ensures.after.later
    c.in_ok-matched.ensures.gives (plain_branches c.args.branches.now) (graph_of c.check_covering.new.world) id gives.is_type
    gives.cover gives.have_types)
    c.check_covering.ensures.gives

pub branches::check_covering-divide-requires-clause-branches : goal.branches::check_covering-divide-requires-clause-branches
branches::check_covering-divide-requires-clause-branches t c = patterns_sound (program_of c.args.base.now)
    (names_seen c.args.base.now c.args.locals.now) (plain_branches c.args.branches.now) c.requires.branches

pub branches::check_covering-cover-requires : goal.branches::check_covering-cover-requires
branches::check_covering-cover-requires t c = record {
  rest = last_node (graph_of c.divide.new.world) (scope_of c.args.base.now)
      c.in_ok-division.division.matched
      c.in_ok-division.division.comings.items c.in_ok-division.division.rest c.in_ok-division.ensures.division;
}

pub branches::check_covering-union-requires : goal.branches::check_covering-union-requires
branches::check_covering-union-requires t c = subst (λ (ids : List NodeId). AllOf (λ id. id.0 < length (graph_of c.check_bodies.new.world)) ids)
    (sym c.as_slice.ensures.value)
    c.in_ok-results.ensures.gives.are_nodes

pub branches::check_covering-returns-clause-after : goal.branches::check_covering-returns-clause-after
branches::check_covering-returns-clause-after t c = (after_grown c.args.base.now c.args.locals.now c.args.world.now c.check_bodies.new.world
    c.union.new.world (after_both c.args.base.now c.args.locals.now c.args.world.now c.cover.new.world c.check_bodies.new.world
    (after_step c.args.base.now c.args.locals.now c.args.world.now c.divide.new.world c.cover.new.world c.requires.ready c.divide.ensures.grows
    c.divide.ensures.sound c.cover.ensures.graph c.cover.ensures.grows) c.in_ok-results.ensures.after) c.union.ensures.grows c.union.ensures.sound)

pub branches::check_covering-returns-clause-gives : goal.branches::check_covering-returns-clause-gives
branches::check_covering-returns-clause-gives t c =
    let is = (later_of c.args.world.now c.divide.new.world c.divide.ensures.grows c.divide.ensures.sound) in
    covering_gives c.args.base.now c.args.locals.now (graph_of c.args.world.now) (plain_branches c.args.branches.now)
    c.args.matched
    (cover_earlier c.args.base.now c.args.locals.now (graph_of c.args.world.now) c.requires.ready (graph_of c.divide.new.world)
    is
    c.args.matched c.requires.matched (plain_branches c.args.branches.now) c.in_ok-division.division.matched
    c.in_ok-division.ensures.matched
    (they_cover (graph_of c.divide.new.world) (scope_of c.args.base.now) (plain_branches c.args.branches.now)
    c.in_ok-division.division.matched
    c.in_ok-division.division.comings.items c.in_ok-division.division.rest
    (c.in_ok-division.ensures.patterns)
    c.in_ok-division.ensures.division c.in_ok-cover.ensures.nothing))
    (graph_of c.check_bodies.new.world) c.in_ok-results.results.items
    (bodies_earlier c.args.base.now c.args.locals.now (graph_of c.args.world.now) c.requires.ready
    (graph_of c.divide.new.world) is
    c.args.matched c.requires.matched (plain_branches c.args.branches.now) (graph_of c.cover.new.world) c.cover.ensures.graph
    c.in_ok-division.division.matched c.in_ok-division.ensures.matched (graph_of c.check_bodies.new.world)
    c.in_ok-results.results.items
    c.in_ok-results.ensures.gives)
    (graph_of c.union.new.world) c.in_ok-union.field-0
    (type_in c.args.base.now (graph_of c.union.new.world) c.args.locals.now
    (after_grown c.args.base.now c.args.locals.now c.args.world.now c.check_bodies.new.world c.union.new.world
    (after_both c.args.base.now c.args.locals.now c.args.world.now c.cover.new.world c.check_bodies.new.world
    (after_step c.args.base.now c.args.locals.now c.args.world.now c.divide.new.world c.cover.new.world c.requires.ready c.divide.ensures.grows
    c.divide.ensures.sound c.cover.ensures.graph c.cover.ensures.grows) c.in_ok-results.ensures.after) c.union.ensures.grows
    c.union.ensures.sound).ready
    c.in_ok-union.field-0 c.in_ok-union.ensures.node)
    (subst (λ (ids : List NodeId). IsInOne (map (typ (graph_of c.check_bodies.new.world)) ids) ⊆ elements_of
    (graph_of c.union.new.world) c.in_ok-union.field-0)
    c.as_slice.ensures.value c.in_ok-union.ensures.has)

pub branches::check_some-divide-requires-clause-branches : goal.branches::check_some-divide-requires-clause-branches
branches::check_some-divide-requires-clause-branches t c = patterns_sound (program_of c.args.base.now)
    (names_seen c.args.base.now c.args.locals.now) (plain_branches c.args.branches.now) c.requires.branches

pub branches::check_some-returns-clause-after : goal.branches::check_some-returns-clause-after
branches::check_some-returns-clause-after t c = after_both c.args.base.now c.args.locals.now c.args.world.now c.divide.new.world
    c.check_bodies.new.world
    (after_start c.args.base.now c.args.locals.now c.args.world.now c.divide.new.world c.requires.ready c.divide.ensures.grows c.divide.ensures.sound)
    c.check_bodies.ensures.after

pub branches::check_some-returns-clause-gives : goal.branches::check_some-returns-clause-gives
branches::check_some-returns-clause-gives t c = IfOk-weaker c.check_bodies.result _ _
    (λ results gives. bodies_earlier c.args.base.now c.args.locals.now (graph_of c.args.world.now) c.requires.ready
    (graph_of c.divide.new.world)
    (later_of c.args.world.now c.divide.new.world c.divide.ensures.grows c.divide.ensures.sound) c.args.matched c.requires.matched (plain_branches c.args.branches.now)
    (graph_of c.divide.new.world) refl
    c.in_ok-division.division.matched c.in_ok-division.ensures.matched (graph_of c.check_bodies.new.world) results.items gives)
    c.check_bodies.ensures.gives

pub branches::check_let-remaining-requires-clause-site : goal.branches::check_let-remaining-requires-clause-site
branches::check_let-remaining-requires-clause-site t c = (c.site_at-sited.ensures.sited (graph_of c.check.new.world)
    (scope_of c.args.base.now) c.in_ok-matched.ensures.after.ready.sited).site.accepted

pub branches::check_let-returns-in-Some-clause-after : goal.branches::check_let-returns-in-Some-clause-after
branches::check_let-returns-in-Some-clause-after t c = (after_both c.args.base.now c.args.locals.now c.args.world.now c.check.new.world
    c.check_body.new.world c.in_ok-matched.ensures.after (after_both c.args.base.now c.args.locals.now c.check.new.world c.cover.new.world
    c.check_body.new.world (after_step c.args.base.now c.args.locals.now c.check.new.world c.remaining.new.world c.cover.new.world
    c.in_ok-matched.ensures.after.ready c.remaining.ensures.grows c.remaining.ensures.sound c.cover.ensures.graph c.cover.ensures.grows)
    c.in_ok-id.ensures.after))

pub branches::check_let-returns-in-None-clause-after : goal.branches::check_let-returns-in-None-clause-after
branches::check_let-returns-in-None-clause-after t c = (after_both c.args.base.now c.args.locals.now c.args.world.now c.check.new.world
    c.check_body.new.world c.in_ok-matched.ensures.after (after_both c.args.base.now c.args.locals.now c.check.new.world c.cover.new.world
    c.check_body.new.world (after_step c.args.base.now c.args.locals.now c.check.new.world c.remaining.new.world c.cover.new.world
    c.in_ok-matched.ensures.after.ready c.remaining.ensures.grows c.remaining.ensures.sound c.cover.ensures.graph c.cover.ensures.grows)
    c.in_ok-id.ensures.after))

pub branches::check_let-returns-in-Some-clause-gives : goal.branches::check_let-returns-in-Some-clause-gives
branches::check_let-returns-in-Some-clause-gives t c = let_gives (scope_of c.args.base.now) (graph_of c.args.world.now) c.requires.ready.sound
    (seen_by c.args.base.now c.args.locals.now) c.requires.ready.nodes
    (plain c.args.value.now) c.in_ok-matched.matched (graph_of c.check.new.world) c.in_ok-matched.ensures.after.later
    c.in_ok-matched.ensures.gives
    (graph_of c.remaining.new.world) (later_of c.check.new.world c.remaining.new.world c.remaining.ensures.grows c.remaining.ensures.sound) c.in_ok-matched.ensures.after.ready.nodes
    (plain_tree c.args.pattern.now) (plain c.args.rest.now)
    (site_decides (graph_of c.check.new.world) (scope_of c.args.base.now) (plain_tree c.args.pattern.now)
    c.site_at-sited.result.now.site (subst (λ (tree : Tree). IsSite (graph_of c.check.new.world) (scope_of c.args.base.now) tree
    c.site_at-sited.result.now.site) c.site_at-sited.ensures.pattern
    (c.site_at-sited.ensures.sited (graph_of c.check.new.world) (scope_of c.args.base.now)
    c.in_ok-matched.ensures.after.ready.sited).site))
    (none_passes (graph_of c.check.new.world) (graph_of c.remaining.new.world) c.in_ok-matched.matched
    (scope_of c.args.base.now) (plain_tree c.args.pattern.now) c.in_ok-left.left
    (c.in_ok-left.ensures.all_left (scope_of c.args.base.now) (plain_tree c.args.pattern.now)
    (subst (λ (tree : Tree). IsSite (graph_of c.check.new.world) (scope_of c.args.base.now) tree c.site_at-sited.result.now.site)
    c.site_at-sited.ensures.pattern
    (c.site_at-sited.ensures.sited (graph_of c.check.new.world) (scope_of c.args.base.now)
    c.in_ok-matched.ensures.after.ready.sited).site))
    c.in_ok-cover.ensures.nothing)
    (graph_of c.check_body.new.world) c.in-Some.id
    (body_moved (scope_of c.args.base.now) (seen_by c.args.base.now c.args.locals.now) (graph_of c.check_body.new.world)
    c.in_ok-matched.matched (plain c.args.rest.now) (graph_of c.cover.new.world) (graph_of c.remaining.new.world)
    c.cover.ensures.graph (sited_pattern c.site_at-sited.result.now) (plain_tree c.args.pattern.now) c.site_at-sited.ensures.pattern
    c.in_ok-id.field-0 (Some c.in-Some.id) c.in-Some.is c.in_ok-id.ensures.gives)

pub branches::check_let-returns-in-None-clause-gives : goal.branches::check_let-returns-in-None-clause-gives
branches::check_let-returns-in-None-clause-gives t c =
    let after = (after_both c.args.base.now c.args.locals.now c.args.world.now c.check.new.world c.check_body.new.world
    c.in_ok-matched.ensures.after (after_both c.args.base.now c.args.locals.now c.check.new.world c.cover.new.world c.check_body.new.world
    (after_step c.args.base.now c.args.locals.now c.check.new.world c.remaining.new.world c.cover.new.world c.in_ok-matched.ensures.after.ready
    c.remaining.ensures.grows c.remaining.ensures.sound c.cover.ensures.graph c.cover.ensures.grows) c.in_ok-id.ensures.after)) in
    let_gives_none (scope_of c.args.base.now) (graph_of c.args.world.now) c.requires.ready.sound
    (seen_by c.args.base.now c.args.locals.now) c.requires.ready.nodes
    (plain c.args.value.now) c.in_ok-matched.matched (graph_of c.check.new.world) c.in_ok-matched.ensures.after.later
    c.in_ok-matched.ensures.gives
    (graph_of c.remaining.new.world) (later_of c.check.new.world c.remaining.new.world c.remaining.ensures.grows c.remaining.ensures.sound) c.in_ok-matched.ensures.after.ready.nodes
    (plain_tree c.args.pattern.now) (plain c.args.rest.now)
    (site_decides (graph_of c.check.new.world) (scope_of c.args.base.now) (plain_tree c.args.pattern.now)
    c.site_at-sited.result.now.site (subst (λ (tree : Tree). IsSite (graph_of c.check.new.world) (scope_of c.args.base.now) tree
    c.site_at-sited.result.now.site) c.site_at-sited.ensures.pattern
    (c.site_at-sited.ensures.sited (graph_of c.check.new.world) (scope_of c.args.base.now)
    c.in_ok-matched.ensures.after.ready.sited).site))
    (none_passes (graph_of c.check.new.world) (graph_of c.remaining.new.world) c.in_ok-matched.matched
    (scope_of c.args.base.now) (plain_tree c.args.pattern.now) c.in_ok-left.left
    (c.in_ok-left.ensures.all_left (scope_of c.args.base.now) (plain_tree c.args.pattern.now)
    (subst (λ (tree : Tree). IsSite (graph_of c.check.new.world) (scope_of c.args.base.now) tree c.site_at-sited.result.now.site)
    c.site_at-sited.ensures.pattern
    (c.site_at-sited.ensures.sited (graph_of c.check.new.world) (scope_of c.args.base.now)
    c.in_ok-matched.ensures.after.ready.sited).site))
    c.in_ok-cover.ensures.nothing)
    (graph_of c.check_body.new.world) EMPTY
    (type_in c.args.base.now (graph_of c.check_body.new.world) c.args.locals.now after.ready EMPTY
    (built_in_below c.args.base.now (graph_of c.check_body.new.world) c.args.locals.now after.ready EMPTY (lit< tt)))
    (body_moved (scope_of c.args.base.now) (seen_by c.args.base.now c.args.locals.now) (graph_of c.check_body.new.world)
    c.in_ok-matched.matched (plain c.args.rest.now) (graph_of c.cover.new.world) (graph_of c.remaining.new.world)
    c.cover.ensures.graph (sited_pattern c.site_at-sited.result.now) (plain_tree c.args.pattern.now) c.site_at-sited.ensures.pattern
    c.in_ok-id.field-0 None c.in-None.is c.in_ok-id.ensures.gives)

pub branches::check_try-union-requires : goal.branches::check_try-union-requires
branches::check_try-union-requires t c = subst (λ (ids : List NodeId). AllOf (λ id. id.0 < length (graph_of c.check_some.new.world)) ids)
    (sym (c.as_slice.ensures.value ∙ c.in_ok-add.ensures))
    (both_nodes (graph_of c.check_some.new.world) c.in_ok-results.results.items (c.in_ok-id.id ∷ [])
    c.in_ok-results.ensures.gives.are_nodes (
      below_later (graph_of c.check.new.world) (graph_of c.check_some.new.world) c.in_ok-results.ensures.after.later
          c.in_ok-id.id
          c.in_ok-id.ensures.gives.is_type.is_node,
      tt,
    ))

pub branches::check_try-returns-clause-after : goal.branches::check_try-returns-clause-after
branches::check_try-returns-clause-after t c = (after_grown c.args.base.now c.args.locals.now c.args.world.now c.check_some.new.world
    c.union.new.world (after_both c.args.base.now c.args.locals.now c.args.world.now c.check.new.world c.check_some.new.world
    c.in_ok-id.ensures.after c.in_ok-results.ensures.after) c.union.ensures.grows c.union.ensures.sound)

pub branches::check_try-returns-clause-gives : goal.branches::check_try-returns-clause-gives
branches::check_try-returns-clause-gives t c =
    let has : IsInOne (map (typ (graph_of c.check_some.new.world)) (c.in_ok-results.results.items ++ c.in_ok-id.id ∷ [])) ⊆
    elements_of (graph_of c.union.new.world) c.in_ok-union.field-0 =
    subst (λ (ids : List NodeId). IsInOne (map (typ (graph_of c.check_some.new.world)) ids) ⊆ elements_of
    (graph_of c.union.new.world) c.in_ok-union.field-0)
    (c.as_slice.ensures.value ∙ c.in_ok-add.ensures) c.in_ok-union.ensures.has in
    try_gives (scope_of c.args.base.now) (graph_of c.args.world.now) c.requires.ready.sound
    (seen_by c.args.base.now c.args.locals.now) c.requires.ready.nodes
    (plain c.args.body.now) c.in_ok-id.id (graph_of c.check.new.world) c.in_ok-id.ensures.after.later c.in_ok-id.ensures.gives
    (plain_branches c.args.branches.now) (graph_of c.union.new.world) c.in_ok-union.field-0
    (type_in c.args.base.now (graph_of c.union.new.world) c.args.locals.now
    (after_grown c.args.base.now c.args.locals.now c.args.world.now c.check_some.new.world c.union.new.world
    (after_both c.args.base.now c.args.locals.now c.args.world.now c.check.new.world c.check_some.new.world c.in_ok-id.ensures.after
    c.in_ok-results.ensures.after) c.union.ensures.grows c.union.ensures.sound).ready
    c.in_ok-union.field-0 c.in_ok-union.ensures.node)
    (built_in_within (graph_of c.check.new.world) c.in_ok-id.ensures.after.ready.more c.in_ok-id.ensures.after.ready.begins
    DATA (lit< tt))
    (last_within (graph_of c.check.new.world) (graph_of c.check_some.new.world) (graph_of c.union.new.world)
    c.in_ok-results.ensures.after.later
    c.in_ok-id.ensures.after.later.sound c.in_ok-results.results.items c.in_ok-id.id c.in_ok-union.field-0
    c.in_ok-id.ensures.gives.is_type.is_node has)
    (bodies_from c.args.base.now c.args.locals.now (graph_of c.check.new.world) (plain_branches c.args.branches.now) DATA
    (graph_of c.check_some.new.world)
    c.in_ok-results.results.items c.in_ok-results.ensures.gives (graph_of c.union.new.world) c.in_ok-union.field-0
    (before_last (graph_of c.check_some.new.world) (graph_of c.union.new.world) c.in_ok-results.results.items c.in_ok-id.id
    c.in_ok-union.field-0 has))

pub branches::check_map-returns-clause-after : goal.branches::check_map-returns-clause-after
branches::check_map-returns-clause-after t c = (after_grown c.args.base.now c.args.locals.now c.args.world.now c.check_covering.new.world
    c.list_of.new.world (after_both c.args.base.now c.args.locals.now c.args.world.now c.items.new.world c.check_covering.new.world
    (after_grown c.args.base.now c.args.locals.now c.args.world.now c.need_at.new.world c.items.new.world
    (after_same c.args.base.now c.args.locals.now c.args.world.now c.check.new.world c.need_at.new.world c.in_ok-list.ensures.after
    c.need_at.ensures.graph c.need_at.ensures.grows) c.items.ensures.grows c.items.ensures.sound) c.in_ok-result.ensures.after)
    c.list_of.ensures.grows c.list_of.ensures.sound)

pub branches::check_map-returns-clause-gives : goal.branches::check_map-returns-clause-gives
branches::check_map-returns-clause-gives t c = map_gives (scope_of c.args.base.now) (graph_of c.args.world.now) c.requires.ready.sound
    (seen_by c.args.base.now c.args.locals.now) c.requires.ready.nodes
    (plain c.args.value.now) c.in_ok-list.list (graph_of c.check.new.world) c.in_ok-list.ensures.after.later
    c.in_ok-list.ensures.gives
    (graph_of c.items.new.world) (subst (λ (graph : Graph). IsLater graph (graph_of c.items.new.world)) c.need_at.ensures.graph
    (later_of c.need_at.new.world c.items.new.world c.items.ensures.grows c.items.ensures.sound))
    c.in_ok-list.ensures.after.ready.nodes c.in_ok-matched.matched
    (type_in c.args.base.now (graph_of c.items.new.world) c.args.locals.now
    (after_grown c.args.base.now c.args.locals.now c.args.world.now c.need_at.new.world c.items.new.world
    (after_same c.args.base.now c.args.locals.now c.args.world.now c.check.new.world c.need_at.new.world c.in_ok-list.ensures.after
    c.need_at.ensures.graph c.need_at.ensures.grows) c.items.ensures.grows c.items.ensures.sound).ready
    c.in_ok-matched.matched c.in_ok-matched.ensures.node)
    (lists_in (graph_of c.need_at.new.world) (graph_of c.check.new.world) (graph_of c.items.new.world) c.need_at.ensures.graph
    c.in_ok-list.list
    c.args.base.now.tools.sequences c.in_ok-matched.matched c.in_ok-need_at.ensures.within
    c.in_ok-list.ensures.after.ready.tools.are_sequences
    c.in_ok-matched.ensures.has) (plain_branches c.args.branches.now)
    (graph_of c.check_covering.new.world) (graph_of c.list_of.new.world) c.in_ok-result.result c.in_ok-list_of.field-0
    c.in_ok-result.ensures.gives.is_type
    (type_in c.args.base.now (graph_of c.list_of.new.world) c.args.locals.now
    (after_grown c.args.base.now c.args.locals.now c.args.world.now c.check_covering.new.world c.list_of.new.world
    (after_both c.args.base.now c.args.locals.now c.args.world.now c.items.new.world c.check_covering.new.world
    (after_grown c.args.base.now c.args.locals.now c.args.world.now c.need_at.new.world c.items.new.world
    (after_same c.args.base.now c.args.locals.now c.args.world.now c.check.new.world c.need_at.new.world c.in_ok-list.ensures.after
    c.need_at.ensures.graph c.need_at.ensures.grows) c.items.ensures.grows c.items.ensures.sound) c.in_ok-result.ensures.after)
    c.list_of.ensures.grows c.list_of.ensures.sound).ready
    c.in_ok-list_of.field-0 c.in_ok-list_of.ensures.node)
    c.in_ok-result.ensures.gives.cover c.in_ok-result.ensures.gives.have_types c.in_ok-list_of.ensures.has

pub branches::check_transform-union-requires : goal.branches::check_transform-union-requires
branches::check_transform-union-requires t c = subst (λ (ids : List NodeId). AllOf (λ id. id.0 < length (graph_of c.check_some.new.world)) ids)
    (sym c.as_slice.ensures.value) c.in_ok-results.ensures.gives.are_nodes

pub branches::check_transform-returns-clause-after : goal.branches::check_transform-returns-clause-after
branches::check_transform-returns-clause-after t c = (after_grown c.args.base.now c.args.locals.now c.args.world.now c.items-2.new.world
    c.list_of.new.world (after_grown c.args.base.now c.args.locals.now c.args.world.now c.union.new.world c.items-2.new.world
    (after_grown c.args.base.now c.args.locals.now c.args.world.now c.check_some.new.world c.union.new.world
    (after_both c.args.base.now c.args.locals.now c.args.world.now c.items.new.world c.check_some.new.world
    (after_grown c.args.base.now c.args.locals.now c.args.world.now c.need_at.new.world c.items.new.world
    (after_same c.args.base.now c.args.locals.now c.args.world.now c.check.new.world c.need_at.new.world c.in_ok-list.ensures.after
    c.need_at.ensures.graph c.need_at.ensures.grows) c.items.ensures.grows c.items.ensures.sound) c.in_ok-results.ensures.after)
    c.union.ensures.grows c.union.ensures.sound) c.items-2.ensures.grows c.items-2.ensures.sound) c.list_of.ensures.grows c.list_of.ensures.sound)

pub branches::check_transform-returns-clause-gives : goal.branches::check_transform-returns-clause-gives
branches::check_transform-returns-clause-gives t c = transform_gives (scope_of c.args.base.now) (graph_of c.args.world.now) c.requires.ready.sound
    (seen_by c.args.base.now c.args.locals.now) c.requires.ready.nodes
    (plain c.args.value.now) c.in_ok-list.list (graph_of c.check.new.world) c.in_ok-list.ensures.after.later
    c.in_ok-list.ensures.gives
    (graph_of c.items.new.world) (subst (λ (graph : Graph). IsLater graph (graph_of c.items.new.world)) c.need_at.ensures.graph
    (later_of c.need_at.new.world c.items.new.world c.items.ensures.grows c.items.ensures.sound))
    c.in_ok-list.ensures.after.ready.nodes c.in_ok-matched.matched
    (type_in c.args.base.now (graph_of c.items.new.world) c.args.locals.now
    (after_grown c.args.base.now c.args.locals.now c.args.world.now c.need_at.new.world c.items.new.world
    (after_same c.args.base.now c.args.locals.now c.args.world.now c.check.new.world c.need_at.new.world c.in_ok-list.ensures.after
    c.need_at.ensures.graph c.need_at.ensures.grows) c.items.ensures.grows c.items.ensures.sound).ready
    c.in_ok-matched.matched c.in_ok-matched.ensures.node)
    (lists_in (graph_of c.need_at.new.world) (graph_of c.check.new.world) (graph_of c.items.new.world) c.need_at.ensures.graph
    c.in_ok-list.list
    c.args.base.now.tools.sequences c.in_ok-matched.matched c.in_ok-need_at.ensures.within
    c.in_ok-list.ensures.after.ready.tools.are_sequences
    c.in_ok-matched.ensures.has) (plain_branches c.args.branches.now)
    (graph_of c.items-2.new.world) (graph_of c.list_of.new.world) c.in_ok-item.item c.in_ok-list_of.field-0
    (type_in c.args.base.now (graph_of c.items-2.new.world) c.args.locals.now
    (after_grown c.args.base.now c.args.locals.now c.args.world.now c.union.new.world c.items-2.new.world
    (after_grown c.args.base.now c.args.locals.now c.args.world.now c.check_some.new.world c.union.new.world
    (after_both c.args.base.now c.args.locals.now c.args.world.now c.items.new.world c.check_some.new.world
    (after_grown c.args.base.now c.args.locals.now c.args.world.now c.need_at.new.world c.items.new.world
    (after_same c.args.base.now c.args.locals.now c.args.world.now c.check.new.world c.need_at.new.world c.in_ok-list.ensures.after
    c.need_at.ensures.graph c.need_at.ensures.grows) c.items.ensures.grows c.items.ensures.sound) c.in_ok-results.ensures.after)
    c.union.ensures.grows c.union.ensures.sound) c.items-2.ensures.grows c.items-2.ensures.sound).ready
    c.in_ok-item.item c.in_ok-item.ensures.node)
    (type_in c.args.base.now (graph_of c.list_of.new.world) c.args.locals.now
    (after_grown c.args.base.now c.args.locals.now c.args.world.now c.items-2.new.world c.list_of.new.world
    (after_grown c.args.base.now c.args.locals.now c.args.world.now c.union.new.world c.items-2.new.world
    (after_grown c.args.base.now c.args.locals.now c.args.world.now c.check_some.new.world c.union.new.world
    (after_both c.args.base.now c.args.locals.now c.args.world.now c.items.new.world c.check_some.new.world
    (after_grown c.args.base.now c.args.locals.now c.args.world.now c.need_at.new.world c.items.new.world
    (after_same c.args.base.now c.args.locals.now c.args.world.now c.check.new.world c.need_at.new.world c.in_ok-list.ensures.after
    c.need_at.ensures.graph c.need_at.ensures.grows) c.items.ensures.grows c.items.ensures.sound) c.in_ok-results.ensures.after)
    c.union.ensures.grows c.union.ensures.sound) c.items-2.ensures.grows c.items-2.ensures.sound) c.list_of.ensures.grows
    c.list_of.ensures.sound).ready
    c.in_ok-list_of.field-0 c.in_ok-list_of.ensures.node)
    (bodies_from c.args.base.now c.args.locals.now (graph_of c.items.new.world) (plain_branches c.args.branches.now)
    c.in_ok-matched.matched (graph_of c.check_some.new.world)
    c.in_ok-results.results.items c.in_ok-results.ensures.gives (graph_of c.list_of.new.world) c.in_ok-list_of.field-0
    (sequences_within (graph_of c.check_some.new.world) (graph_of c.union.new.world) (graph_of c.items-2.new.world)
    (graph_of c.list_of.new.world)
    c.in_ok-results.results.items c.args.base.now.tools.sequences c.in_ok-lists.lists c.in_ok-item.item c.in_ok-list_of.field-0
    (after_both c.args.base.now c.args.locals.now c.args.world.now c.items.new.world c.check_some.new.world
    (after_grown c.args.base.now c.args.locals.now c.args.world.now c.need_at.new.world c.items.new.world
    (after_same c.args.base.now c.args.locals.now c.args.world.now c.check.new.world c.need_at.new.world c.in_ok-list.ensures.after
    c.need_at.ensures.graph c.need_at.ensures.grows) c.items.ensures.grows c.items.ensures.sound)
    c.in_ok-results.ensures.after).ready.tools.are_sequences
    c.in_ok-results.ensures.within
    (subst (λ (ids : List NodeId). IsInOne (map (typ (graph_of c.check_some.new.world)) ids) ⊆ elements_of
    (graph_of c.union.new.world) c.in_ok-lists.lists)
    c.as_slice.ensures.value c.in_ok-lists.ensures.has)
    (subst (λ (ids : List NodeId). elements_of (graph_of c.union.new.world) c.in_ok-lists.lists ⊆ IsInOne
    (map (typ (graph_of c.check_some.new.world)) ids))
    c.as_slice.ensures.value c.in_ok-lists.ensures.only)
    c.in_ok-item.ensures.has c.in_ok-list_of.ensures.has))
    c.in_ok-list_of.ensures.has c.in_ok-list_of.ensures.only

pub bodies::check_bodies-loop-number-preserved : goal.bodies::check_bodies-loop-number-preserved
bodies::check_bodies-loop-number-preserved t c =
    let looked = there c.args.division.now.comings.items c.loop-number.number c.get.result c.in-Some.coming
    (subst (λ (all : List Coming). IsItemAt all c.loop-number.number c.get.result) c.deref.ensures.value
    c.get.ensures.lookup)
    c.in-Some.is in
    let further : Done c.args.base.now c.args.locals.now c.args.world.now c.args.division.now
    (plain_branches c.args.branches.now)
    c.items-branch-items.result.now c.args.limit c.check_body.new.world (c.loop-number.number + 1)
    (c.loop-number.results.items ++ listed c.in_ok-id.field-0) =
    one_done c.args.base.now c.args.locals.now c.args.world.now c.requires.ready c.args.division.now
    (plain_branches c.args.branches.now) c.items-branch-items.result.now c.args.limit c.loop-number.world
    c.loop-number.number
    c.loop-number.results.items c.loop-number.invariant c.branch-item.result c.branch-item.is c.loop-number-test.true
    c.in-Some.coming.now looked.0 looked.1 c.requires.limit c.check_body.new.world c.in_ok-id.field-0
    c.in_ok-id.ensures.after
    (subst (λ (body : Expr). BodyGives (scope_of c.args.base.now) (graph_of c.loop-number.world)
    (seen_by c.args.base.now c.args.locals.now) (graph_of c.check_body.new.world)
    (elements_of (graph_of c.loop-number.world) c.in-Some.coming.now.matched) (coming_pattern c.in-Some.coming.now) body
    c.in_ok-id.field-0) (sym (branch_body c.branch-item.result)) c.in_ok-id.ensures.gives) c.in_ok-id.ensures.within
    (subst (λ (body : Expr). BodyLeast (scope_of c.args.base.now) (graph_of c.loop-number.world)
    (seen_by c.args.base.now c.args.locals.now) (graph_of c.check_body.new.world)
    (elements_of (graph_of c.loop-number.world) c.in-Some.coming.now.matched) (coming_pattern c.in-Some.coming.now) body
    c.in_ok-id.field-0) (sym (branch_body c.branch-item.result)) c.in_ok-id.ensures.least) in
    elim c.match-branch-2.branch [
      | bodies::check_bodies-in-Some-2+in_ok-add w ↦ rw (w.results-is)
          (subst (λ (ids : List NodeId). Done c.args.base.now c.args.locals.now c.args.world.now c.args.division.now
          (plain_branches c.args.branches.now) c.items-branch-items.result.now c.args.limit c.check_body.new.world
          (c.loop-number.number + 1) ids)
          (ap (λ found. c.loop-number.results.items ++ listed found) w.in-Some-2.is ∙ sym w.in_ok-add.ensures) further)
      | bodies::check_bodies-in_default w ↦ rw (w.results-is)
          (subst (λ (ids : List NodeId). Done c.args.base.now c.args.locals.now c.args.world.now c.args.division.now
          (plain_branches c.args.branches.now) c.items-branch-items.result.now c.args.limit c.check_body.new.world
          (c.loop-number.number + 1) ids)
          (ap (λ found. c.loop-number.results.items ++ listed found) w.in_default.is ∙ append-nil c.loop-number.results.items)
          further)
    ]

pub bodies::check_bodies-returns-clause-gives : goal.bodies::check_bodies-returns-clause-gives
bodies::check_bodies-returns-clause-gives t c = all_done c.args.base.now c.args.locals.now c.args.world.now c.requires.ready
    c.args.division.now
    (plain_branches c.args.branches.now) c.items-branch-items.result.now c.args.limit c.loop-number.world
    c.loop-number.number
    c.loop-number.results.items c.loop-number.invariant c.loop-number-test.false

pub bodies::check_body-returns-in-None-clause-gives : goal.bodies::check_body-returns-in-None-clause-gives
bodies::check_body-returns-in-None-clause-gives t c =
    let scope = scope_of c.args.base.now in
    let old = graph_of c.args.world.now in
    let coming = c.args.coming in
    none_gives old scope coming.sited.now c.requires.sited (seen_by c.args.base.now c.args.locals.now) (graph_of c.captures-2.new.world)
    coming.matched (plain c.args.body.now)
    (nothing_comes old coming.matched coming.sited.now.site (graph_of c.captures-2.new.world) c.in_ok-captures.field-0
    c.in_ok-captures.ensures.comes c.in-None.is scope (coming_pattern coming) c.requires.sited.site)

pub bodies::check_body-returns-in_ok-keep_limit-in-Some-clause-gives : goal.bodies::check_body-returns-in_ok-keep_limit-in-Some-clause-gives
bodies::check_body-returns-in_ok-keep_limit-in-Some-clause-gives t c =
    let base = c.args.base.now in
    let scope = scope_of base in
    let old = graph_of c.args.world.now in
    let middle = graph_of c.captures-2.new.world in
    let coming = c.args.coming in
    let sited = coming.sited.now in
    let comes = something_comes old coming.matched sited.site middle c.in_ok-captures.field-0 c.in-Some.own c.in_ok-captures.ensures.comes
    c.in-Some.is in
    subst (λ (graph : Graph). BodyGives scope old (seen_by base c.args.locals.now) graph (elements_of old coming.matched) (coming_pattern coming)
    (plain c.args.body.now) (Some c.in_ok-id-in-Some.id)) (sym c.keep_limit.ensures.graph)
    (one_gives base c.args.locals.now c.in-Some.own.items c.as_slice.result.now (c.as_slice.ensures.value ∙ c.in_ok-all-in-Some.ensures)
    old sited c.requires.sited coming.matched middle (comes.hold scope (coming_pattern coming) c.requires.sited.site)
    (plain c.args.body.now) c.requires.ready
    (later_of c.args.world.now c.captures-2.new.world c.captures-2.ensures.grows c.captures-2.ensures.sound) comes.nodes
    (graph_of c.check.new.world) c.in_ok-id-in-Some.id c.in_ok-id-in-Some.ensures.gives)

pub bodies::check_body-returns-in-None-clause-after : goal.bodies::check_body-returns-in-None-clause-after
bodies::check_body-returns-in-None-clause-after t c = after_start c.args.base.now c.args.locals.now c.args.world.now c.captures-2.new.world
    c.requires.ready c.captures-2.ensures.grows c.captures-2.ensures.sound

pub bodies::check_body-returns-in_ok-keep_limit-in-Some-clause-after : goal.bodies::check_body-returns-in_ok-keep_limit-in-Some-clause-after
bodies::check_body-returns-in_ok-keep_limit-in-Some-clause-after t c =
    let base = c.args.base.now in
    let locals = c.args.locals.now in
    let start = c.args.world.now in
    let first = after_all base locals c.as_slice.result.now start c.captures-2.new.world c.check.new.world c.requires.ready
    c.captures-2.ensures.grows c.captures-2.ensures.sound c.in_ok-id-in-Some.ensures.after in
    after_same base locals start c.check.new.world c.keep_limit.new.world first c.keep_limit.ensures.graph c.keep_limit.ensures.grows

pub function::check_function-nodes_of-nodes-requires-clause-function : goal.function::check_function-nodes_of-nodes-requires-clause-function
function::check_function-nodes_of-nodes-requires-clause-function t c = function_within (program_of c.args.base.now)
    (names_seen c.args.base.now c.args.locals.now) (plain_function c.args.function.now) c.requires.sound

pub function::check_function-returns-clause-gives : goal.function::check_function-returns-clause-gives
function::check_function-returns-clause-gives t c = function_gives c.args.base.now c.args.world.now c.args.locals.now c.requires.ready
    c.check_promise.new.world c.in_ok-check_promise.ensures.after (plain_function c.args.function.now) c.nodes_of-nodes.result.now
    (c.nodes_of-nodes.ensures (scope_of c.args.base.now) (graph_of c.args.world.now)
    c.requires.ready.promised)
    c.in_ok-check_promise.ensures.kept

pub function::check_promise-loop-argument-init : goal.function::check_promise-loop-argument-init
function::check_promise-loop-argument-init t c = (
  after_none c.args.base.now c.in_ok-inner.inner.items c.args.world.now
      (ready_named c.args.base.now (graph_of c.args.world.now) c.args.locals.now (out-FunctionTree c.args.function.now).name
      c.args.nodes.now.whole c.in_ok-inner.inner.items
      c.in_ok-inner.ensures (whole_below (scope_of c.args.base.now) (graph_of c.args.world.now)
      (plain_function c.args.function.now) c.args.nodes.now.arrows.items c.args.nodes.now.whole c.requires.promise)
      c.requires.ready),
  λ all. all,
)

pub function::check_promise-loop-argument-preserved : goal.function::check_promise-loop-argument-preserved
function::check_promise-loop-argument-preserved t c =
    let beyond : NodeId × NodeId = (record { 0 = 0 }, record { 0 = 0 }) in
    let after = subst (λ (names : Nodes). IsAfter c.args.base.now names c.loop-argument.world c.check_arrow.new.world) c.as_slice.ensures.value
    c.in_ok-check_arrow.ensures.after in (
      after_both c.args.base.now c.in_ok-inner.inner.items c.args.world.now c.loop-argument.world c.check_arrow.new.world
          c.loop-argument.invariant.0 after,
      one_kept c.args.base.now c.in_ok-inner.inner.items (graph_of c.args.world.now)
          (ready_named c.args.base.now (graph_of c.args.world.now) c.args.locals.now (out-FunctionTree c.args.function.now).name
          c.args.nodes.now.whole c.in_ok-inner.inner.items
          c.in_ok-inner.ensures (whole_below (scope_of c.args.base.now) (graph_of c.args.world.now)
          (plain_function c.args.function.now) c.args.nodes.now.arrows.items c.args.nodes.now.whole c.requires.promise)
          c.requires.ready) (graph_of c.loop-argument.world)
          c.loop-argument.invariant.0.later (plain_branches (out-FunctionTree c.args.function.now).branches)
          c.as_slice-argument-items.result.now
          (subst (λ (all : List (NodeId × NodeId)). ArePairs (graph_of c.args.world.now) all)
          (sym c.as_slice-argument-items.ensures.value)
          (arrows_below (scope_of c.args.base.now) (graph_of c.args.world.now) c.requires.ready.sound
          (plain_function c.args.function.now) c.args.nodes.now.arrows.items c.args.nodes.now.whole
          c.requires.promise))
          c.loop-argument.argument-index (get_or c.as_slice-argument-items.result.now c.loop-argument.argument-index beyond)
          (at_any c.as_slice-argument-items.result.now c.loop-argument.argument-index beyond
          (get_or c.as_slice-argument-items.result.now c.loop-argument.argument-index beyond) c.loop-argument-test.true)
          c.loop-argument-test.true c.loop-argument.invariant.1
          (subst (λ (names : Nodes). KeptAt (scope_of c.args.base.now) (graph_of c.loop-argument.world)
          (seen_by c.args.base.now names) (plain_branches (out-FunctionTree c.args.function.now).branches)
          (get_or c.as_slice-argument-items.result.now c.loop-argument.argument-index beyond)) c.as_slice.ensures.value
          c.in_ok-check_arrow.ensures.kept),
    )

pub function::check_promise-returns-clause-kept : goal.function::check_promise-returns-clause-kept
function::check_promise-returns-clause-kept t c = promise_kept c.args.base.now (graph_of c.args.world.now) c.args.locals.now c.in_ok-inner.inner.items
    c.args.function.now c.args.nodes.now c.in_ok-inner.ensures
    (subst (λ (all : List (NodeId × NodeId)). AllOf (KeptAt (scope_of c.args.base.now) (graph_of c.args.world.now)
    (seen_by c.args.base.now c.in_ok-inner.inner.items) (plain_branches (out-FunctionTree c.args.function.now).branches)) all)
    c.as_slice-argument-items.ensures.value
    (none_left_have (KeptAt (scope_of c.args.base.now) (graph_of c.args.world.now)
    (seen_by c.args.base.now c.in_ok-inner.inner.items) (plain_branches (out-FunctionTree c.args.function.now).branches))
    c.as_slice-argument-items.result.now c.loop-argument.argument-index c.loop-argument-test.false c.loop-argument.invariant.1))

pub function::check_arrow-divide-requires-clause-branches : goal.function::check_arrow-divide-requires-clause-branches
function::check_arrow-divide-requires-clause-branches t c = patterns_sound (program_of c.args.base.now)
    (names_seen c.args.base.now c.args.locals.now) (plain_branches c.args.branches.now) c.requires.sound

pub function::check_arrow-cover-requires : goal.function::check_arrow-cover-requires
function::check_arrow-cover-requires t c = record {
  rest = last_node (graph_of c.divide.new.world) (scope_of c.args.base.now)
      c.in_ok-division.division.matched
      c.in_ok-division.division.comings.items c.in_ok-division.division.rest c.in_ok-division.ensures.division;
}

pub function::check_arrow-returns-clause-after : goal.function::check_arrow-returns-clause-after
function::check_arrow-returns-clause-after t c = after_both c.args.base.now c.args.locals.now c.args.world.now c.cover.new.world
    c.check_bodies.new.world (after_step c.args.base.now c.args.locals.now c.args.world.now c.divide.new.world c.cover.new.world c.requires.ready
    c.divide.ensures.grows c.divide.ensures.sound c.cover.ensures.graph c.cover.ensures.grows) c.in_ok-check_bodies.ensures.after

pub function::check_arrow-returns-clause-kept : goal.function::check_arrow-returns-clause-kept
function::check_arrow-returns-clause-kept t c = arrow_given c.args.base.now c.args.locals.now (graph_of c.args.world.now) c.requires.ready
    (graph_of c.divide.new.world) (graph_of c.check_bodies.new.world)
    (later_of c.args.world.now c.divide.new.world c.divide.ensures.grows c.divide.ensures.sound)
    (subst (λ (graph : Graph). IsLater graph (graph_of c.check_bodies.new.world)) c.cover.ensures.graph
    c.in_ok-check_bodies.ensures.after.later) (plain_branches c.args.branches.now) c.args.arrow c.requires.argument
    c.requires.result
    c.in_ok-division.division.matched c.in_ok-division.ensures.matched
    (they_cover (graph_of c.divide.new.world) (scope_of c.args.base.now) (plain_branches c.args.branches.now)
    c.in_ok-division.division.matched c.in_ok-division.division.comings.items c.in_ok-division.division.rest
    c.in_ok-division.ensures.patterns c.in_ok-division.ensures.division c.in_ok-cover.ensures.nothing)
    (graph_of c.cover.new.world) c.cover.ensures.graph c.in_ok-check_bodies.field-0.items c.in_ok-check_bodies.ensures.gives
    c.in_ok-check_bodies.ensures.within

pub operands::check_exprs-check-requires : goal.operands::check_exprs-check-requires
operands::check_exprs-check-requires t c =
    let fall = rw c.items-expr-items.ensures at (room_falls (size (plain c.expr-item.result))
    (size_exprs (exprs_of (map plain c.items-expr-items.result.now)))
    (exprs_fall c.items-expr-items.result.now c.loop-expr.expr-index c.expr-item.result c.expr-item.is c.loop-expr-test.true)) in (
      search (rules, fall, c.decreases),
      (
        search rules,
        (let declared = program_of c.args.base.now in
            let seen = names_seen c.args.base.now c.args.locals.now in
            expr_at declared seen c.items-expr-items.result.now c.loop-expr.expr-index c.expr-item.result c.expr-item.is c.loop-expr-test.true
            (subst (λ (all : Exprs). AreSound declared seen all) (sym c.items-expr-items.ensures) c.requires.sound)),
      ),
    )

pub operands::check_items-check_item-requires : goal.operands::check_items-check_item-requires
operands::check_items-check_item-requires t c =
    let fall = rw c.items-item-items.ensures at (room_falls (size_item (plain_item c.item-item.result))
    (size_items (items_of (map plain_item c.items-item-items.result.now)))
    (items_fall c.items-item-items.result.now c.loop-item.item-index c.item-item.result c.item-item.is c.loop-item-test.true)) in (
      search (rules, fall, c.decreases),
      (
        search rules,
        (let declared = program_of c.args.base.now in
            let seen = names_seen c.args.base.now c.args.locals.now in
            item_at declared seen c.items-item-items.result.now c.loop-item.item-index c.item-item.result c.item-item.is c.loop-item-test.true
            (subst (λ (all : Items). ItemsAreSound declared seen all) (sym c.items-item-items.ensures) c.requires.sound)),
      ),
    )

pub operands::check_fields-check-requires : goal.operands::check_fields-check-requires
operands::check_fields-check-requires t c =
    let fall = rw c.items-field-items.ensures at (room_falls (suc (size (plain_field c.field-item.result).expr))
    (size_fields (fields_of (map plain_field c.items-field-items.result.now)))
    (fields_fall c.items-field-items.result.now c.loop-field.field-index c.field-item.result c.field-item.is c.loop-field-test.true)) in
    let fall = rw (field_expr c.field-item.result) at fall in (
      search (rules, fall, c.decreases),
      (
        search rules,
        (let declared = program_of c.args.base.now in
            let seen = names_seen c.args.base.now c.args.locals.now in
            subst (λ (e : Expr). IsSound declared seen e) (field_expr c.field-item.result)
            (field_at declared seen c.items-field-items.result.now c.loop-field.field-index c.field-item.result c.field-item.is
            c.loop-field-test.true
            (subst (λ (all : Fields). FieldsAreSound declared seen all) (sym c.items-field-items.ensures) c.requires.sound))),
      ),
    )

pub chain::check_arguments-check_argument-requires : goal.chain::check_arguments-check_argument-requires
chain::check_arguments-check_argument-requires t c =
    let fall = room_falls (size (plain c.argument-item.result)) (size_exprs (exprs_of (map plain c.args.arguments.now)))
    (exprs_fall c.args.arguments.now c.loop-argument.argument-index c.argument-item.result c.argument-item.is c.loop-argument-test.true) in (
      search (rules, fall, c.decreases),
      (
        (c.loop-argument.invariant.0.ready),
        (
          (c.loop-argument.invariant.1.is_type.is_node),
          (expr_at (program_of c.args.base.now) (names_seen c.args.base.now c.args.locals.now) c.args.arguments.now
              c.loop-argument.argument-index c.argument-item.result c.argument-item.is c.loop-argument-test.true c.requires.sound),
        ),
      ),
    )

pub chain::check_tails-check_tail-requires : goal.chain::check_tails-check_tail-requires
chain::check_tails-check_tail-requires t c =
    let fall = rw c.items-tail-items.ensures at (room_falls (size_tail (plain_tail c.tail-item.result))
    (size_tails (tails_of (map plain_tail c.items-tail-items.result.now)))
    (tails_fall c.items-tail-items.result.now c.loop-tail.tail-index c.tail-item.result c.tail-item.is c.loop-tail-test.true)) in (
      search (rules, fall, c.decreases),
      (
        (c.loop-tail.invariant.0.ready),
        (
          (c.loop-tail.invariant.1.is_type.is_node),
          (let declared = program_of c.args.base.now in
              let seen = names_seen c.args.base.now c.args.locals.now in
              tail_at declared seen c.items-tail-items.result.now c.loop-tail.tail-index c.tail-item.result c.tail-item.is c.loop-tail-test.true
              (subst (λ (all : Tails). TailsAreSound declared seen all) (sym c.items-tail-items.ensures) c.requires.sound)),
        ),
      ),
    )

pub branches::check_covering-check_bodies-requires : goal.branches::check_covering-check_bodies-requires
branches::check_covering-check_bodies-requires t c = (
  search (rules, c.decreases),
  (
    ((after_step c.args.base.now c.args.locals.now c.args.world.now c.divide.new.world c.cover.new.world c.requires.ready c.divide.ensures.grows
        c.divide.ensures.sound c.cover.ensures.graph c.cover.ensures.grows).ready),
    (
      search rules,
      (
        (subst (λ (graph : Graph). IsDivision graph (scope_of c.args.base.now)
            c.in_ok-division.division)
            (sym c.cover.ensures.graph) c.in_ok-division.ensures.division),
        (
          ((c.in_ok-division.ensures.patterns)),
          search rules,
        ),
      ),
    ),
  ),
)

pub branches::check_some-check_bodies-requires : goal.branches::check_some-check_bodies-requires
branches::check_some-check_bodies-requires t c = (
  search (rules, c.decreases),
  (
    ((after_start c.args.base.now c.args.locals.now c.args.world.now c.divide.new.world c.requires.ready c.divide.ensures.grows
        c.divide.ensures.sound).ready),
    (
      search rules,
      (
        search rules,
        (
          ((c.in_ok-division.ensures.patterns)),
          (limit_later (graph_of c.args.world.now) (graph_of c.divide.new.world)
              (later_of c.args.world.now c.divide.new.world c.divide.ensures.grows c.divide.ensures.sound) c.args.limit c.requires.limit),
        ),
      ),
    ),
  ),
)

pub branches::check_let-check_body-requires : goal.branches::check_let-check_body-requires
branches::check_let-check_body-requires t c = (
  search (rules, c.decreases),
  (
    ((after_step c.args.base.now c.args.locals.now c.check.new.world c.remaining.new.world c.cover.new.world c.in_ok-matched.ensures.after.ready
        c.remaining.ensures.grows c.remaining.ensures.sound c.cover.ensures.graph c.cover.ensures.grows).ready),
    (
      (subst (λ (tree : Tree). IsSound (program_of c.args.base.now)
          (names_of tree ++ names_seen c.args.base.now c.args.locals.now) (plain c.args.rest.now))
          (sym c.site_at-sited.ensures.pattern) c.requires.rest),
      (
        (subst (λ (graph : Graph). IsSited graph (scope_of c.args.base.now) c.site_at-sited.result.now)
            (sym c.cover.ensures.graph)
            (sited_later (graph_of c.check.new.world) (graph_of c.remaining.new.world)
            (later_of c.check.new.world c.remaining.new.world c.remaining.ensures.grows c.remaining.ensures.sound)
            (scope_of c.args.base.now) c.site_at-sited.result.now (c.site_at-sited.ensures.sited (graph_of c.check.new.world) (scope_of c.args.base.now)
            c.in_ok-matched.ensures.after.ready.sited))),
        (
          (below_later (graph_of c.check.new.world) (graph_of c.cover.new.world)
              (after_step c.args.base.now c.args.locals.now c.check.new.world c.remaining.new.world c.cover.new.world
              c.in_ok-matched.ensures.after.ready c.remaining.ensures.grows c.remaining.ensures.sound c.cover.ensures.graph
              c.cover.ensures.grows).later
              c.in_ok-matched.matched c.in_ok-matched.ensures.gives.is_type.is_node),
          search rules,
        ),
      ),
    ),
  ),
)

pub branches::check_try-check_some-requires : goal.branches::check_try-check_some-requires
branches::check_try-check_some-requires t c = (
  search (rules, c.decreases),
  (
    search rules,
    (
      (built_in_below c.args.base.now (graph_of c.check.new.world) c.args.locals.now
          c.in_ok-id.ensures.after.ready DATA (lit< tt)),
      (
        search rules,
        search rules,
      ),
    ),
  ),
)

pub branches::check_map-check_covering-requires : goal.branches::check_map-check_covering-requires
branches::check_map-check_covering-requires t c = (
  search (rules, c.decreases),
  (
    ((after_grown c.args.base.now c.args.locals.now c.args.world.now c.need_at.new.world c.items.new.world
        (after_same c.args.base.now c.args.locals.now c.args.world.now c.check.new.world c.need_at.new.world c.in_ok-list.ensures.after
        c.need_at.ensures.graph c.need_at.ensures.grows) c.items.ensures.grows c.items.ensures.sound).ready),
    (
      search rules,
      search rules,
    ),
  ),
)

pub branches::check_transform-check_some-requires : goal.branches::check_transform-check_some-requires
branches::check_transform-check_some-requires t c = (
  search (rules, c.decreases),
  (
    ((after_grown c.args.base.now c.args.locals.now c.args.world.now c.need_at.new.world c.items.new.world
        (after_same c.args.base.now c.args.locals.now c.args.world.now c.check.new.world c.need_at.new.world c.in_ok-list.ensures.after
        c.need_at.ensures.graph c.need_at.ensures.grows) c.items.ensures.grows c.items.ensures.sound).ready),
    (
      search rules,
      (
        search rules,
        ((after_grown c.args.base.now c.args.locals.now c.args.world.now c.need_at.new.world c.items.new.world
            (after_same c.args.base.now c.args.locals.now c.args.world.now c.check.new.world c.need_at.new.world c.in_ok-list.ensures.after
            c.need_at.ensures.graph c.need_at.ensures.grows) c.items.ensures.grows c.items.ensures.sound).ready.tools.sequences),
      ),
    ),
  ),
)

pub bodies::check_bodies-check_body-requires : goal.bodies::check_bodies-check_body-requires
bodies::check_bodies-check_body-requires t c =
    let base = c.args.base.now in
    let locals = c.args.locals.now in
    let old = graph_of c.args.world.now in
    let new = graph_of c.loop-number.world in
    let division = c.args.division.now in
    let branches = plain_branches c.args.branches.now in
    let items = c.items-branch-items.result.now in
    let number = c.loop-number.number in
    let done = c.loop-number.invariant in
    let coming = c.in-Some.coming in
    let fall = rw c.items-branch-items.ensures at (room_falls (suc (suc (size (plain_branch c.branch-item.result).body)))
    (size_branches (branches_of (map plain_branch items)))
    (branches_fall items number c.branch-item.result c.branch-item.is c.loop-number-test.true)) in
    let fall = rw (branch_body c.branch-item.result) at fall in
    let looked = there division.comings.items number c.get.result coming
    (subst (λ (all : List Coming). IsItemAt all number c.get.result) c.deref.ensures.value c.get.ensures.lookup) c.in-Some.is in (
      search (rules, fall, c.decreases),
      (
        done.after.ready,
        (
          subst (λ (body : Expr). IsSound (program_of base) (names_of (coming_pattern coming.now) ++ names_seen base locals) body)
              (branch_body c.branch-item.result)
              (is_sound base locals c.args.world.now c.requires.ready division branches items c.args.limit c.loop-number.world number c.loop-number.results.items done
              c.branch-item.result c.branch-item.is c.loop-number-test.true coming.now looked.0 looked.1 c.items-branch-items.ensures
              c.requires.sound),
          (
            is_sited base locals c.args.world.now c.requires.ready division branches items c.args.limit c.loop-number.world number c.loop-number.results.items done
                c.branch-item.result c.branch-item.is c.loop-number-test.true coming.now looked.0 looked.1,
            (
              matched_below base locals c.args.world.now c.requires.ready division branches items c.args.limit c.loop-number.world number c.loop-number.results.items
                  done c.branch-item.result c.branch-item.is c.loop-number-test.true coming.now looked.0 looked.1,
              limit_later old new done.after.later c.args.limit c.requires.limit,
            ),
          ),
        ),
      ),
    )

pub bodies::check_body-check-requires : goal.bodies::check_body-check-requires
bodies::check_body-check-requires t c =
    let base = c.args.base.now in
    let scope = scope_of base in
    let old = graph_of c.args.world.now in
    let middle = graph_of c.captures-2.new.world in
    let coming = c.args.coming in
    let sited = coming.sited.now in
    let comes = something_comes old coming.matched sited.site middle c.in_ok-captures.field-0 c.in-Some.own c.in_ok-captures.ensures.comes
    c.in-Some.is in
    let taken = comes.taken scope (coming_pattern coming) c.requires.sited.site in
    let same = c.as_slice.ensures.value ∙ c.in_ok-all-in-Some.ensures in (
      search (rules, c.decreases),
      (
        (ready_all base middle c.args.locals.now c.in-Some.own.items c.as_slice.result.now same comes.nodes
            (ready_later base old middle
            (later_of c.args.world.now c.captures-2.new.world c.captures-2.ensures.grows c.captures-2.ensures.sound)
            c.args.locals.now c.requires.ready)),
        (body_is_sound base c.args.locals.now c.in-Some.own.items c.as_slice.result.now same old sited c.requires.sited coming.matched middle
            (comes.hold scope (coming_pattern coming) c.requires.sited.site) (plain c.args.body.now) taken.0 taken.1 c.requires.sound),
      ),
    )

pub function::check_function-check_promise-requires : goal.function::check_function-check_promise-requires
function::check_function-check_promise-requires t c = (
  search (rules, c.decreases),
  (
    search rules,
    (
      search rules,
      c.nodes_of-nodes.ensures (scope_of c.args.base.now) (graph_of c.args.world.now) c.requires.ready.promised,
    ),
  ),
)

pub function::check_promise-check_arrow-requires : goal.function::check_promise-check_arrow-requires
function::check_promise-check_arrow-requires t c = (
  search (rules, ap size_function (function_is c.args.function.now), c.decreases),
  (
    search rules,
    (
      branches_sound c.args.base.now c.args.locals.now c.as_slice.result.now c.args.nodes.now.whole c.args.function.now
          (c.as_slice.ensures.value ∙ c.in_ok-inner.ensures) c.requires.sound,
      (
        (let beyond : NodeId × NodeId = (record { 0 = 0 }, record { 0 = 0 }) in
            below_later (graph_of c.args.world.now) (graph_of c.loop-argument.world) c.loop-argument.invariant.0.later
            (get_or c.as_slice-argument-items.result.now c.loop-argument.argument-index beyond).0
            (pair_at (graph_of c.args.world.now) c.as_slice-argument-items.result.now
            (subst (λ (all : List (NodeId × NodeId)). ArePairs (graph_of c.args.world.now) all)
            (sym c.as_slice-argument-items.ensures.value)
            (arrows_below (scope_of c.args.base.now) (graph_of c.args.world.now) c.requires.ready.sound
            (plain_function c.args.function.now) c.args.nodes.now.arrows.items c.args.nodes.now.whole
            c.requires.promise)) c.loop-argument.argument-index beyond
            c.loop-argument-test.true).0),
        (let beyond : NodeId × NodeId = (record { 0 = 0 }, record { 0 = 0 }) in
            below_later (graph_of c.args.world.now) (graph_of c.loop-argument.world) c.loop-argument.invariant.0.later
            (get_or c.as_slice-argument-items.result.now c.loop-argument.argument-index beyond).1
            (pair_at (graph_of c.args.world.now) c.as_slice-argument-items.result.now
            (subst (λ (all : List (NodeId × NodeId)). ArePairs (graph_of c.args.world.now) all)
            (sym c.as_slice-argument-items.ensures.value)
            (arrows_below (scope_of c.args.base.now) (graph_of c.args.world.now) c.requires.ready.sound
            (plain_function c.args.function.now) c.args.nodes.now.arrows.items c.args.nodes.now.whole
            c.requires.promise)) c.loop-argument.argument-index beyond
            c.loop-argument-test.true).1),
      ),
    ),
  ),
)

pub function::check_arrow-check_bodies-requires : goal.function::check_arrow-check_bodies-requires
function::check_arrow-check_bodies-requires t c = (
  search (rules, c.decreases),
  (
    ((after_step c.args.base.now c.args.locals.now c.args.world.now c.divide.new.world c.cover.new.world c.requires.ready c.divide.ensures.grows
        c.divide.ensures.sound c.cover.ensures.graph c.cover.ensures.grows).ready),
    (
      search rules,
      (
        (subst (λ (graph : Graph). IsDivision graph (scope_of c.args.base.now)
            c.in_ok-division.division)
            (sym c.cover.ensures.graph) c.in_ok-division.ensures.division),
        (
          c.in_ok-division.ensures.patterns,
          (below_later (graph_of c.args.world.now) (graph_of c.cover.new.world)
              (after_step c.args.base.now c.args.locals.now c.args.world.now c.divide.new.world c.cover.new.world c.requires.ready
              c.divide.ensures.grows c.divide.ensures.sound c.cover.ensures.graph c.cover.ensures.grows).later c.args.arrow.1 c.requires.result),
        ),
      ),
    ),
  ),
)

pub chain::check_apply-returns-clause-least : goal.chain::check_apply-returns-clause-least
chain::check_apply-returns-clause-least t c =
    let base = c.args.base.now in
    let locals = c.args.locals.now in
    let old = graph_of c.args.world.now in
    let first = graph_of c.check.new.world in
    let new = graph_of c.check_arguments.new.world in
    let nodes = seen_by base locals in
    let function = c.in_ok-id-in-len1-up.id in
    let step = c.in_ok-id-in-len1-up.ensures in
    let items = c.items.result.now in
    let count = length-drop 1 items in
    let rest = take (length items - 1) (drop 1 items) in
    let whole : items ≡ c.function-item.result ∷ rest =
    left_is items 0 c.function-item.result c.function-item.is c.in-len1-up.len_at_least
    ∙ ap (λ (rest : List CodeExpr). c.function-item.result ∷ rest)
    (sym (take_all (length items - 1) (drop 1 items) (omega (arith, count)))) in
    IfOk-weaker c.check_arguments.result _ _
    (λ id narrow. subst (λ (exprs : Exprs). KindLeast base old locals new (Apply exprs) id)
    (ap (λ (all : List CodeExpr). exprs_of (map plain all)) (sym whole) ∙ c.items.ensures)
    (apply_least (scope_of base) nodes old c.requires.ready.sound c.requires.ready.nodes first new step.after.later
    (plain c.function-item.result) function id step.least (exprs_of (map plain rest)) narrow))
    c.check_arguments.ensures.least

pub chain::check_apply-returns-clause-fault : goal.chain::check_apply-returns-clause-fault
chain::check_apply-returns-clause-fault t c =
    let base = c.args.base.now in
    let locals = c.args.locals.now in
    let old = graph_of c.args.world.now in
    let first = graph_of c.check.new.world in
    let table = table_of c.check_arguments.new.world in
    let nodes = seen_by base locals in
    let e = plain c.function-item.result in
    let function = c.in_ok-id-in-len1-up.id in
    let step = c.in_ok-id-in-len1-up.ensures in
    let items = c.items.result.now in
    let count = length-drop 1 items in
    let rest = take (length items - 1) (drop 1 items) in
    let whole : items ≡ c.function-item.result ∷ rest =
    left_is items 0 c.function-item.result c.function-item.is c.in-len1-up.len_at_least
    ∙ ap (λ (rest : List CodeExpr). c.function-item.result ∷ rest)
    (sym (take_all (length items - 1) (drop 1 items) (omega (arith, count)))) in
    IfErr-weaker c.check_arguments.result _ _
    (λ error fails. subst (λ (exprs : Exprs). KindFails base old locals table c.args.at (Apply exprs) error)
    (ap (λ (all : List CodeExpr). exprs_of (map plain all)) (sym whole) ∙ c.items.ensures)
    (apply_fails (scope_of base) nodes old c.requires.ready.sound c.requires.ready.nodes first step.after.later e function
    (known (scope_of base) old nodes first e function step.gives step.least) (out-Expr c.function-item.result).span.from
    (place_is c.function-item.result) c.args.at table (exprs_of (map plain rest)) error fails))
    c.check_arguments.ensures.fault

pub chain::check_arguments-returns-clause-least : goal.chain::check_arguments-returns-clause-least
chain::check_arguments-returns-clause-least t c = all_arguments_narrow (scope_of c.args.base.now) (seen_by c.args.base.now c.args.locals.now) (graph_of c.args.world.now)
    (graph_of c.loop-argument.world) c.args.function c.loop-argument.id (exprs_of (map plain c.args.arguments.now)) c.args.arguments.now
    c.loop-argument.argument-index c.loop-argument-test.false c.loop-argument.invariant.2

pub chain::check_arguments-returns-in_err-id-clause-fault : goal.chain::check_arguments-returns-in_err-id-clause-fault
chain::check_arguments-returns-in_err-id-clause-fault t c =
    let base = c.args.base.now in
    let now = c.loop-argument in
    let is = err_from_is_err_and c.from_residual.result c.from_residual.ensures.1 in
    rw (is.1, is.2)
    (λ f stands. all_arguments_fail (scope_of base) (seen_by base c.args.locals.now) (graph_of c.args.world.now) c.requires.ready.sound
    c.requires.ready.nodes (graph_of now.world) now.invariant.0.later c.args.at f now.id now.place (table_of c.check_argument.new.world)
    (exprs_of (map plain c.args.arguments.now)) c.args.arguments.now now.argument-index c.argument-item.result c.argument-item.is
    c.loop-argument-test.true (now.invariant.3 f stands) c.in_err-id.field-0.0 c.in_err-id.ensures.fault)

pub chain::check_argument-returns-in-Results-clause-least : goal.chain::check_argument-returns-in-Results-clause-least
chain::check_argument-returns-in-Results-clause-least t c types of =
    let base = c.args.base.now in
    let locals = c.args.locals.now in
    let old = graph_of c.args.world.now in
    let middle = graph_of c.check.new.world in
    let new = graph_of c.apply.new.world in
    let e = plain c.args.argument.now in
    let id = c.in_ok-id.id in
    let results = c.in-Results.results in
    let step = c.in_ok-id.ensures in
    applied_least (scope_of base) old (seen_by base locals) c.requires.ready.sound c.args.function c.requires.function middle step.after.later
    new e id (known (scope_of base) old (seen_by base locals) middle e id step.gives step.least) results types of
    (subst (λ (applied : Applied). AreResultsAlone middle c.args.function id new applied) c.in-Results.is c.in_ok-results.ensures.only)

pub chain::check_argument-returns-in-NotFunction-clause-fault : goal.chain::check_argument-returns-in-NotFunction-clause-fault
chain::check_argument-returns-in-NotFunction-clause-fault t c =
    let base = c.args.base.now in
    let locals = c.args.locals.now in
    let nodes = seen_by base locals in
    let old = graph_of c.args.world.now in
    let middle = graph_of c.check.new.world in
    let table = table_of c.apply.new.world in
    let function = c.args.function in
    let e = plain c.args.argument.now in
    let named = subst (λ (applied : Applied). NamesNoFunction middle function table applied) c.in-NotFunction.is
    c.in_ok-results.ensures.not_function in
    subst (ArgumentFails base old locals table function c.args.at e) (sym c.ill_typed.ensures)
    (λ f stands. (
      named.0,
      λ types of. inr (inl (no_function (scope_of base) old nodes middle f function
          (known_later (scope_of base) old nodes old middle c.in_ok-id.ensures.after.later c.requires.ready.sound f function stands.0)
          types of e (element_at table c.in-NotFunction.element) named.1 named.2 named.3 c.args.at (sym stands.1))),
    ))

pub chain::check_argument-returns-in-OutsideDomain-clause-fault : goal.chain::check_argument-returns-in-OutsideDomain-clause-fault
chain::check_argument-returns-in-OutsideDomain-clause-fault t c =
    let base = c.args.base.now in
    let locals = c.args.locals.now in
    let nodes = seen_by base locals in
    let old = graph_of c.args.world.now in
    let middle = graph_of c.check.new.world in
    let table = table_of c.apply.new.world in
    let function = c.args.function in
    let e = plain c.args.argument.now in
    let id = c.in_ok-id.id in
    let step = c.in_ok-id.ensures in
    let named = subst (λ (applied : Applied). NamesOutside middle function id table applied) c.in-OutsideDomain.is
    c.in_ok-results.ensures.outside in
    subst (ArgumentFails base old locals table function c.args.at e) (sym c.ill_typed-in-OutsideDomain.ensures)
    (λ f stands. (
      named.1,
      λ types of. inr (inr (outside_domain (scope_of base) old nodes middle f function
          (known_later (scope_of base) old nodes old middle step.after.later c.requires.ready.sound f function stands.0)
          types of e (element_at table c.in-OutsideDomain.element) named.2 named.0 id
          (known (scope_of base) old nodes middle e id step.gives step.least) named.3 named.4 (out-Expr c.args.argument.now).span.from
          (sym (place_is c.args.argument.now)))),
    ))

pub chain::check_chain-returns-clause-least : goal.chain::check_chain-returns-clause-least
chain::check_chain-returns-clause-least t c =
    let base = c.args.base.now in
    let nodes = seen_by base c.args.locals.now in
    let step = c.in_ok-id.ensures in
    IfOk-weaker c.check_tails.result _ _
    (λ result narrow. chain_least (scope_of base) nodes (graph_of c.args.world.now) c.requires.ready.sound c.requires.ready.nodes
    (graph_of c.check.new.world) (graph_of c.check_tails.new.world) step.after.later (plain c.args.first.now) c.in_ok-id.id result step.least
    (plain_tails c.args.tails.now) narrow)
    c.check_tails.ensures.least

pub chain::check_chain-returns-clause-fault : goal.chain::check_chain-returns-clause-fault
chain::check_chain-returns-clause-fault t c =
    let base = c.args.base.now in
    let nodes = seen_by base c.args.locals.now in
    let old = graph_of c.args.world.now in
    let first = graph_of c.check.new.world in
    let step = c.in_ok-id.ensures in
    let e = plain c.args.first.now in
    IfErr-weaker c.check_tails.result _ _
    (λ error fails. chain_fails (scope_of base) nodes old c.requires.ready.sound c.requires.ready.nodes first step.after.later e c.in_ok-id.id
    (known (scope_of base) old nodes first e c.in_ok-id.id step.gives step.least) (out-Expr c.args.first.now).span.from
    (place_is c.args.first.now) c.args.at (table_of c.check_tails.new.world)
    (plain_tails c.args.tails.now) error fails)
    c.check_tails.ensures.fault

pub chain::check_tails-returns-clause-least : goal.chain::check_tails-returns-clause-least
chain::check_tails-returns-clause-least t c = all_tails_narrow (scope_of c.args.base.now) (seen_by c.args.base.now c.args.locals.now) (graph_of c.args.world.now)
    (graph_of c.loop-tail.world) c.args.first c.loop-tail.id (plain_tails c.args.tails.now) c.items-tail-items.result.now
    c.loop-tail.tail-index c.loop-tail-test.false c.loop-tail.invariant.2

pub chain::check_tails-returns-in_err-id-clause-fault : goal.chain::check_tails-returns-in_err-id-clause-fault
chain::check_tails-returns-in_err-id-clause-fault t c =
    let base = c.args.base.now in
    let now = c.loop-tail in
    let is = err_from_is_err_and c.from_residual.result c.from_residual.ensures.1 in
    rw (is.1, is.2)
    (λ f stands. all_tails_fail (scope_of base) (seen_by base c.args.locals.now) (graph_of c.args.world.now) c.requires.ready.sound
    c.requires.ready.nodes (graph_of now.world) now.invariant.0.later c.args.at f now.id now.place (table_of c.check_tail.new.world)
    (plain_tails c.args.tails.now) c.items-tail-items.result.now now.tail-index c.tail-item.result c.tail-item.is
    c.loop-tail-test.true (now.invariant.3 f stands) c.in_err-id.field-0.0 c.in_err-id.ensures.fault)

pub chain::check_tail-returns-in-Ok-clause-least : goal.chain::check_tail-returns-in-Ok-clause-least
chain::check_tail-returns-in-Ok-clause-least t c =
    let base = c.args.base.now in
    let locals = c.args.locals.now in
    let old = graph_of c.args.world.now in
    let new = graph_of c.drop_field.new.world in
    let id = c.in-Ok.id in
    subst (λ (tail : Tail). TailLeast base old locals new c.args.first tail id)
    (sym (ap plain_tail c.in-Without.is ∙ tail_without c.in-Without.label))
    (λ types of. without_least (scope_of base) types (typ old c.args.first) (typ new id) c.in-Without.label c.in-Ok.ensures.only)

pub chain::check_tail-returns-in-Ok-take_field-clause-least : goal.chain::check_tail-returns-in-Ok-take_field-clause-least
chain::check_tail-returns-in-Ok-take_field-clause-least t c =
    let base = c.args.base.now in
    let locals = c.args.locals.now in
    let old = graph_of c.args.world.now in
    let new = graph_of c.take_field.new.world in
    let id = c.in-Ok-take_field.id in
    subst (λ (tail : Tail). TailLeast base old locals new c.args.first tail id)
    (sym (ap plain_tail c.in-Select.is ∙ tail_select c.in-Select.label))
    (λ types of. select_least (scope_of base) types (typ old c.args.first) (typ new id) c.in-Select.label c.in-Ok-take_field.ensures.only)

pub chain::check_operand-returns-in-Ok-clause-least : goal.chain::check_operand-returns-in-Ok-clause-least
chain::check_operand-returns-in-Ok-clause-least t c types of =
    let base = c.args.base.now in
    let nodes = seen_by base c.args.locals.now in
    let old = graph_of c.args.world.now in
    let middle = graph_of c.check.new.world in
    let new = graph_of c.operate.new.world in
    let e = plain c.args.expr.now in
    let step = c.in_ok-second.ensures in
    let second = c.in_ok-second.second in
    operated_least (scope_of base) old nodes c.requires.ready.sound c.args.first c.requires.first middle step.after.later new e second
    (known (scope_of base) old nodes middle e second step.gives step.least) c.in-Ok.id types of c.args.op c.requires.met c.in-Ok.ensures.least.within

pub test::check_if-returns-clause-least : goal.test::check_if-returns-clause-least
test::check_if-returns-clause-least t c =
    let base = c.args.base.now in
    let locals = c.args.locals.now in
    let old = graph_of c.args.world.now in
    let nodes = seen_by base locals in
    let tested = c.in_ok-tested.tested in
    let condition = plain c.args.condition.now in
    let step = c.in_ok-tested.ensures in
    let first = after_same base locals c.args.world.now c.check.new.world c.need_at.new.world step.after c.need_at.ensures.graph
    c.need_at.ensures.grows in
    test_least (scope_of base) nodes old c.requires.ready.sound c.requires.ready.nodes condition tested (graph_of c.need_at.new.world) first.later
    (subst (λ (whole : Graph). IsKnown old nodes (scope_of base) whole condition tested) (sym c.need_at.ensures.graph)
    (known (scope_of base) old nodes (graph_of c.check.new.world) condition tested step.gives step.least))
    first.ready.nodes (plain c.args.then_one.now) (plain c.args.else_one.now) (graph_of c.check_side.new.world)
    (graph_of c.check_side-2.new.world) (graph_of c.either.new.world) c.in_ok-one.ensures.after.later c.in_ok-other.ensures.after.later
    c.in_ok-one.one c.in_ok-other.other c.in_ok-one.ensures.gives c.in_ok-one.ensures.least c.in_ok-other.ensures.gives
    c.in_ok-other.ensures.least c.in_ok-either.field-0 c.in_ok-either.ensures.only

pub test::check_if-returns-in_err-tested-clause-fault : goal.test::check_if-returns-in_err-tested-clause-fault
test::check_if-returns-in_err-tested-clause-fault t c =
    let base = c.args.base.now in
    let ready = c.requires.ready in
    let is = err_from_is_err_and c.from_residual.result c.from_residual.ensures.1 in
    rw (is.1, is.2)
    (λ here. condition_fails (scope_of base) (seen_by base c.args.locals.now) (graph_of c.args.world.now) ready.sound ready.nodes
    (table_of c.check.new.world) (plain c.args.condition.now) (plain c.args.then_one.now) (plain c.args.else_one.now) here
    c.in_err-tested.field-0.0 c.in_err-tested.ensures.fault)

pub test::check_if-returns-in_err-need_at-clause-fault : goal.test::check_if-returns-in_err-need_at-clause-fault
test::check_if-returns-in_err-need_at-clause-fault t c =
    let base = c.args.base.now in
    let ready = c.requires.ready in
    let old = graph_of c.args.world.now in
    let nodes = seen_by base c.args.locals.now in
    let condition = plain c.args.condition.now in
    let step = c.in_ok-tested.ensures in
    let checked = graph_of c.check.new.world in
    let table = table_of c.need_at.new.world in
    let error = c.in_err-need_at.field-0.0 in
    let is = err_from_is_err_and c.from_residual-in_err-need_at.result c.from_residual-in_err-need_at.ensures.1 in
    rw (is.1, is.2)
    (λ here. test_fails (scope_of base) nodes old ready.sound ready.nodes table condition (plain c.args.then_one.now) (plain c.args.else_one.now)
    here error
    (breaks (scope_of base) old nodes checked condition c.in_ok-tested.tested
    (known (scope_of base) old nodes checked condition c.in_ok-tested.tested step.gives step.least) BOOL (BuiltIn BOOL)
    (built_in_within checked step.after.ready.more step.after.ready.begins BOOL (lit< tt)) (out-Expr c.args.condition.now).span.from
    (sym (place_is c.args.condition.now)) rule.Condition table error c.in_err-need_at.ensures.fault))

pub test::check_if-returns-in_err-one-clause-fault : goal.test::check_if-returns-in_err-one-clause-fault
test::check_if-returns-in_err-one-clause-fault t c =
    let base = c.args.base.now in
    let locals = c.args.locals.now in
    let ready = c.requires.ready in
    let old = graph_of c.args.world.now in
    let nodes = seen_by base locals in
    let condition = plain c.args.condition.now in
    let tested = c.in_ok-tested.tested in
    let step = c.in_ok-tested.ensures in
    let first = graph_of c.need_at.new.world in
    let is = err_from_is_err_and c.from_residual-in_err-one.result c.from_residual-in_err-one.ensures.1 in
    rw (is.1, is.2)
    (λ here. then_fails (scope_of base) nodes old ready.sound ready.nodes (table_of c.check_side.new.world) condition
    (plain c.args.then_one.now) (plain c.args.else_one.now) here c.in_err-one.field-0.0 first
    (after_same base locals c.args.world.now c.check.new.world c.need_at.new.world step.after c.need_at.ensures.graph
    c.need_at.ensures.grows).later tested
    (subst (λ (whole : Graph). IsKnown old nodes (scope_of base) whole condition tested) (sym c.need_at.ensures.graph)
    (known (scope_of base) old nodes (graph_of c.check.new.world) condition tested step.gives step.least))
    c.in_err-one.ensures.fault)

pub test::check_if-returns-in_err-other-clause-fault : goal.test::check_if-returns-in_err-other-clause-fault
test::check_if-returns-in_err-other-clause-fault t c =
    let base = c.args.base.now in
    let locals = c.args.locals.now in
    let ready = c.requires.ready in
    let old = graph_of c.args.world.now in
    let nodes = seen_by base locals in
    let condition = plain c.args.condition.now in
    let tested = c.in_ok-tested.tested in
    let step = c.in_ok-tested.ensures in
    let first = graph_of c.need_at.new.world in
    let second = graph_of c.check_side.new.world in
    let after = after_same base locals c.args.world.now c.check.new.world c.need_at.new.world step.after c.need_at.ensures.graph
    c.need_at.ensures.grows in
    let is = err_from_is_err_and c.from_residual-in_err-other.result c.from_residual-in_err-other.ensures.1 in
    rw (is.1, is.2)
    (λ here. else_fails (scope_of base) nodes old ready.sound ready.nodes (table_of c.check_side-2.new.world) condition
    (plain c.args.then_one.now) (plain c.args.else_one.now) here c.in_err-other.field-0.0 second
    (after_both base locals c.args.world.now c.need_at.new.world c.check_side.new.world after c.in_ok-one.ensures.after).later tested
    (known_later (scope_of base) old nodes first second c.in_ok-one.ensures.after.later after.ready.sound condition tested
    (subst (λ (whole : Graph). IsKnown old nodes (scope_of base) whole condition tested) (sym c.need_at.ensures.graph)
    (known (scope_of base) old nodes (graph_of c.check.new.world) condition tested step.gives step.least)))
    c.in_err-other.ensures.fault)

pub test::check_short-returns-clause-least : goal.test::check_short-returns-clause-least
test::check_short-returns-clause-least t c =
    let base = c.args.base.now in
    let locals = c.args.locals.now in
    let old = graph_of c.args.world.now in
    let nodes = seen_by base locals in
    let tested = c.args.first in
    let met = c.args.met in
    let e = plain c.args.expr.now in
    let second = graph_of c.check_side.new.world in
    let last = graph_of c.either.new.world in
    let after = after_both base locals c.args.world.now c.need_at.new.world c.check_side.new.world
    (after_same base locals c.args.world.now c.args.world.now c.need_at.new.world (after_none base locals c.args.world.now c.requires.ready)
    c.need_at.ensures.graph c.need_at.ensures.grows) c.in_ok-long.ensures.after in
    short_least (scope_of base) nodes old c.requires.ready.sound c.requires.ready.nodes tested c.requires.first e second last after.later
    c.in_ok-either.field-0 (truth_node base (not met)) c.in_ok-short.short c.in_ok-long.long
    (subst (λ (whole : Graph). elements_of last c.in_ok-either.field-0 ⊆ IsInEither whole c.in_ok-short.short c.in_ok-long.long)
    c.short_side.ensures.graph c.in_ok-either.ensures.only)
    met
    (subst (λ (whole : Graph). SideBelow (scope_of base) nodes whole (elements_of whole tested) met e second c.in_ok-long.long)
    c.need_at.ensures.graph c.in_ok-long.ensures.least)
    (truth_alone base second locals after.ready (not met)) c.in_ok-short.ensures.side c.in_ok-short.ensures.may

pub test::check_short-returns-in_err-need_at-clause-fault : goal.test::check_short-returns-in_err-need_at-clause-fault
test::check_short-returns-in_err-need_at-clause-fault t c =
    let base = c.args.base.now in
    let ready = c.requires.ready in
    let old = graph_of c.args.world.now in
    let nodes = seen_by base c.args.locals.now in
    let table = table_of c.need_at.new.world in
    let error = c.in_err-need_at.field-0.0 in
    let is = err_from_is_err_and c.from_residual.result c.from_residual.ensures.1 in
    rw (is.1, is.2)
    (λ f stands. short_test_fails (scope_of base) nodes old ready.sound ready.nodes c.args.first c.requires.first (plain c.args.expr.now) table f
    error c.args.met
    (breaks (scope_of base) old nodes old f c.args.first stands.0 BOOL (BuiltIn BOOL)
    (built_in_within old ready.more ready.begins BOOL (lit< tt)) c.args.at (sym stands.1) rule.Condition table error
    c.in_err-need_at.ensures.fault))

pub test::check_short-returns-in_err-long-clause-fault : goal.test::check_short-returns-in_err-long-clause-fault
test::check_short-returns-in_err-long-clause-fault t c =
    let base = c.args.base.now in
    let locals = c.args.locals.now in
    let ready = c.requires.ready in
    let e = plain c.args.expr.now in
    let table = table_of c.check_side.new.world in
    let error = c.in_err-long.field-0.0 in
    let is = err_from_is_err_and c.from_residual-in_err-long.result c.from_residual-in_err-long.ensures.1 in
    rw (is.1, is.2)
    (λ f stands. short_side_fails (scope_of base) (seen_by base locals) (graph_of c.args.world.now) ready.sound ready.nodes c.args.first
    c.requires.first e table f error stands.0 c.args.met
    (subst (λ (whole : Graph). SideFails base whole locals table c.args.first c.args.met e error) c.need_at.ensures.graph
    c.in_err-long.ensures.fault))

pub test::check_side-returns-then-branch-clause-least : goal.test::check_side-returns-then-branch-clause-least
test::check_side-returns-then-branch-clause-least t c =
    let base = c.args.base.now in
    let locals = c.args.locals.now in
    let old = graph_of c.args.world.now in (
      tested_has base old locals c.requires.ready c.args.tested c.truth.result c.args.value c.truth.ensures
          (c.in_ok-may_be.ensures.together c.if-branch.true),
      subst (λ (whole : Graph). IsBelow whole (seen_by base locals) (graph_of c.check.new.world)
          (λ types t. Has (scope_of base) types (plain c.args.expr.now) t) c.in_ok-check.field-0)
          c.may_be.ensures.graph c.in_ok-check.ensures.least,
    )

pub test::check_side-returns-in_err-check-clause-fault : goal.test::check_side-returns-in_err-check-clause-fault
test::check_side-returns-in_err-check-clause-fault t c =
    let base = c.args.base.now in
    let locals = c.args.locals.now in
    let value = c.args.value in
    let tested = c.args.tested in
    let old = graph_of c.args.world.now in
    let e = plain c.args.expr.now in
    let table = table_of c.check.new.world in
    let error = c.in_err-check.field-0.0 in
    let is = err_from_is_err_and c.from_residual-in_err-check.result c.from_residual-in_err-check.ensures.1 in
    rw (is.1, is.2)
    (fails_more old (seen_by base locals) table (λ types at reported d. Fault (scope_of base) types e at reported d)
    (λ types at reported d. elements_of old tested (truth value) × Fault (scope_of base) types e at reported d)
    (λ types of at reported d fault. (
      tested_has base old locals c.requires.ready tested c.truth.result value c.truth.ensures (c.in_ok-may_be.ensures.together c.if-branch.true),
      fault,
    ))
    error (subst (λ (whole : Graph). ExprFails base whole locals table e error) c.may_be.ensures.graph c.in_err-check.ensures.fault))

pub function::check_arrow-returns-in_err-cover-clause-fault : goal.function::check_arrow-returns-in_err-cover-clause-fault
function::check_arrow-returns-in_err-cover-clause-fault t c =
    let is = err_from_is_err_and c.from_residual-in_err-cover.result c.from_residual-in_err-cover.ensures.1 in
    let base = c.args.base.now in
    let first = graph_of c.args.world.now in
    let second = graph_of c.divide.new.world in
    let division = c.in_ok-division.division in
    let given = c.in_ok-division.ensures in
    let branches = plain_branches c.args.branches.now in
    let arrow = c.args.arrow in
    rw (is.1, is.2) (arrow_uncovered (scope_of base) first (seen_by base c.args.locals.now) (table_of c.cover.new.world) c.args.at branches arrow
    c.in_err-cover.field-0.0
    (uncovered_fails (scope_of base) first (seen_by base c.args.locals.now) second branches (elements_of first arrow.0) division.rest
    (λ e element inside. let left = none_takes second (scope_of base) branches division.matched division.comings.items division.rest
    given.patterns given.division e element inside in (
      earlier_in first second (later_of c.args.world.now c.divide.new.world c.divide.ensures.grows c.divide.ensures.sound) c.requires.ready.sound
          arrow.0 c.requires.argument e element (subst (λ (id : NodeId). elements_of second id e) given.matched left.0),
      left.1,
    )) c.args.at (table_of c.cover.new.world) c.in_err-cover.field-0.0 c.in_err-cover.ensures.fault))

pub function::check_arrow-returns-in_err-check_bodies-clause-fault : goal.function::check_arrow-returns-in_err-check_bodies-clause-fault
function::check_arrow-returns-in_err-check_bodies-clause-fault t c =
    let is = err_from_is_err_and c.from_residual-in_err-check_bodies.result c.from_residual-in_err-check_bodies.ensures.1 in
    let base = c.args.base.now in
    let first = graph_of c.args.world.now in
    let branches = plain_branches c.args.branches.now in
    let arrow = c.args.arrow in
    let table = table_of c.check_bodies.new.world in
    let error = c.in_err-check_bodies.field-0.0 in
    rw (is.1, is.2) (arrow_body_fault (scope_of base) first (seen_by base c.args.locals.now) table c.args.at branches arrow error
    (branches_fail_earlier (scope_of base) first c.requires.ready.sound (seen_by base c.args.locals.now) c.requires.ready.nodes
    (graph_of c.divide.new.world) (later_of c.args.world.now c.divide.new.world c.divide.ensures.grows c.divide.ensures.sound)
    arrow.0 c.requires.argument branches (graph_of c.cover.new.world) c.cover.ensures.graph c.in_ok-division.division.matched
    c.in_ok-division.ensures.matched (Some (within_result arrow)) c.requires.result table error c.in_err-check_bodies.ensures.fault))

pub function::check_promise-returns-in_err-check_arrow-clause-fault : goal.function::check_promise-returns-in_err-check_arrow-clause-fault
function::check_promise-returns-in_err-check_arrow-clause-fault t c =
    let is = err_from_is_err_and c.from_residual-in_err-check_arrow.result c.from_residual-in_err-check_arrow.ensures.1 in
    let base = c.args.base.now in
    let beyond : NodeId × NodeId = (record { 0 = 0 }, record { 0 = 0 }) in
    let items = c.as_slice-argument-items.result.now in
    let index = c.loop-argument.argument-index in
    let arrow = get_or items index beyond in
    let f = out-FunctionTree c.args.function.now in
    let table = table_of c.check_arrow.new.world in
    let error = c.in_err-check_arrow.field-0.0 in
    rw (is.1, is.2) (promise_failed base (graph_of c.args.world.now) (graph_of c.loop-argument.world) c.loop-argument.invariant.0.later
    c.args.locals.now c.requires.ready c.in_ok-inner.inner.items c.args.function.now c.args.nodes.now c.in_ok-inner.ensures c.requires.promise
    items c.as_slice-argument-items.ensures.value index arrow (at_any items index beyond arrow c.loop-argument-test.true) c.loop-argument-test.true
    table error
    (subst (λ (names : Nodes). ArrowFails base (graph_of c.loop-argument.world) names table f.at (plain_branches f.branches) arrow error)
    c.as_slice.ensures.value c.in_err-check_arrow.ensures.fault))

pub function::check_function-returns-in_err-check_promise-clause-fault : goal.function::check_function-returns-in_err-check_promise-clause-fault
function::check_function-returns-in_err-check_promise-clause-fault t c =
    let is = err_from_is_err_and c.from_residual.result c.from_residual.ensures.1 in
    rw (is.1, is.2) (λ here. c.in_err-check_promise.ensures.fault)

pub function::check_function-returns-clause-least : goal.function::check_function-returns-clause-least
function::check_function-returns-clause-least t c = function_below (scope_of c.args.base.now) (graph_of c.args.world.now) (seen_by c.args.base.now c.args.locals.now)
    (graph_of c.args.world.now) (graph_of c.check_promise.new.world) c.in_ok-check_promise.ensures.after.later c.requires.ready.sound
    (plain_function c.args.function.now) c.nodes_of-nodes.result.now.arrows.items c.nodes_of-nodes.result.now.whole
    (c.nodes_of-nodes.ensures (scope_of c.args.base.now) (graph_of c.args.world.now)
    c.requires.ready.promised)

pub bodies::check_bodies-loop-number-init : goal.bodies::check_bodies-loop-number-init
bodies::check_bodies-loop-number-init t c = rw c.new-results.ensures.items (none_done c.args.base.now c.args.locals.now c.args.world.now c.requires.ready c.args.division.now
    (plain_branches c.args.branches.now) c.items-branch-items.result.now c.args.limit c.items-branch-items.ensures c.requires.division
    c.requires.patterns)

pub bodies::check_bodies-returns-clause-least : goal.bodies::check_bodies-returns-clause-least
bodies::check_bodies-returns-clause-least t c = all_done_least c.args.base.now c.args.locals.now c.args.world.now c.requires.ready c.args.division.now
    (plain_branches c.args.branches.now) c.items-branch-items.result.now c.args.limit c.loop-number.world
    c.loop-number.number c.loop-number.results.items c.loop-number.invariant c.loop-number-test.false

pub bodies::check_bodies-returns-in_err-id-clause-fault : goal.bodies::check_bodies-returns-in_err-id-clause-fault
bodies::check_bodies-returns-in_err-id-clause-fault t c =
    let base = c.args.base.now in
    let locals = c.args.locals.now in
    let division = c.args.division.now in
    let coming = c.in-Some.coming.now in
    let table = table_of c.check_body.new.world in
    let error = c.in_err-id.field-0.0 in
    let looked = there division.comings.items c.loop-number.number c.get.result c.in-Some.coming
    (subst (λ (all : List Coming). IsItemAt all c.loop-number.number c.get.result) c.deref.ensures.value c.get.ensures.lookup) c.in-Some.is in
    let is = err_from_is_err_and c.from_residual.result c.from_residual.ensures.1 in
    rw (is.1, is.2)
    (one_failed base locals c.args.world.now c.requires.ready division (plain_branches c.args.branches.now)
    c.items-branch-items.result.now c.args.limit c.loop-number.world c.loop-number.number c.loop-number.results.items
    c.loop-number.invariant c.branch-item.result c.branch-item.is c.loop-number-test.true coming looked.0 looked.1 c.requires.limit table error
    (subst (λ (body : Expr). BodyFails base (graph_of c.loop-number.world) locals table coming.matched c.args.limit (coming_pattern coming) body error)
    (sym (branch_body c.branch-item.result)) c.in_err-id.ensures.fault))

pub bodies::check_body-returns-in-None-clause-least : goal.bodies::check_body-returns-in-None-clause-least
bodies::check_body-returns-in-None-clause-least t c types of =
    let scope = scope_of c.args.base.now in
    let old = graph_of c.args.world.now in
    let coming = c.args.coming in
    none_gives old scope coming.sited.now c.requires.sited (seen_by c.args.base.now c.args.locals.now) (graph_of c.captures-2.new.world)
    coming.matched (plain c.args.body.now)
    (nothing_comes old coming.matched coming.sited.now.site (graph_of c.captures-2.new.world) c.in_ok-captures.field-0
    c.in_ok-captures.ensures.comes c.in-None.is scope (coming_pattern coming) c.requires.sited.site)

pub bodies::check_body-returns-in_ok-keep_limit-in-Some-clause-least : goal.bodies::check_body-returns-in_ok-keep_limit-in-Some-clause-least
bodies::check_body-returns-in_ok-keep_limit-in-Some-clause-least t c =
    let base = c.args.base.now in
    let scope = scope_of base in
    let old = graph_of c.args.world.now in
    let middle = graph_of c.captures-2.new.world in
    let coming = c.args.coming in
    let sited = coming.sited.now in
    let comes = something_comes old coming.matched sited.site middle c.in_ok-captures.field-0 c.in-Some.own c.in_ok-captures.ensures.comes
    c.in-Some.is in
    let taken = comes.taken scope (coming_pattern coming) c.requires.sited.site in
    let id = c.in_ok-id-in-Some in
    subst (λ (graph : Graph). BodyLeast scope old (seen_by base c.args.locals.now) graph (elements_of old coming.matched) (coming_pattern coming)
    (plain c.args.body.now) (Some id.id)) (sym c.keep_limit.ensures.graph)
    (taken_known base c.args.locals.now c.in-Some.own.items c.as_slice.result.now (c.as_slice.ensures.value ∙ c.in_ok-all-in-Some.ensures) old
    c.requires.ready sited coming.matched middle
    (later_of c.args.world.now c.captures-2.new.world c.captures-2.ensures.grows c.captures-2.ensures.sound) comes.nodes
    (comes.hold scope (coming_pattern coming) c.requires.sited.site) (comes.only scope (coming_pattern coming) c.requires.sited.site)
    taken.0 taken.1 (plain c.args.body.now) (graph_of c.check.new.world) id.id id.ensures.gives id.ensures.least)

pub bodies::check_body-returns-in_err-id-in-Some-clause-fault : goal.bodies::check_body-returns-in_err-id-in-Some-clause-fault
bodies::check_body-returns-in_err-id-in-Some-clause-fault t c =
    let base = c.args.base.now in
    let scope = scope_of base in
    let old = graph_of c.args.world.now in
    let middle = graph_of c.captures-2.new.world in
    let coming = c.args.coming in
    let sited = coming.sited.now in
    let comes = something_comes old coming.matched sited.site middle c.in_ok-captures.field-0 c.in-Some.own c.in_ok-captures.ensures.comes
    c.in-Some.is in
    let taken = comes.taken scope (coming_pattern coming) c.requires.sited.site in
    let is = err_from_is_err_and c.from_residual-in_err-id-in-Some.result c.from_residual-in_err-id-in-Some.ensures.1 in
    rw (is.1, is.2)
    (taken_fails base c.args.locals.now c.in-Some.own.items c.as_slice.result.now (c.as_slice.ensures.value ∙ c.in_ok-all-in-Some.ensures) old
    c.requires.ready sited coming.matched middle
    (later_of c.args.world.now c.captures-2.new.world c.captures-2.ensures.grows c.captures-2.ensures.sound) comes.nodes
    (comes.hold scope (coming_pattern coming) c.requires.sited.site) (comes.only scope (coming_pattern coming) c.requires.sited.site)
    taken.0 taken.1 (plain c.args.body.now) (table_of c.check.new.world) c.args.limit
    c.in_err-id-in-Some.field-0.0 c.in_err-id-in-Some.ensures.fault)

pub bodies::check_body-returns-in_err-keep_limit-in-Some-clause-fault : goal.bodies::check_body-returns-in_err-keep_limit-in-Some-clause-fault
bodies::check_body-returns-in_err-keep_limit-in-Some-clause-fault t c =
    let base = c.args.base.now in
    let scope = scope_of base in
    let old = graph_of c.args.world.now in
    let middle = graph_of c.captures-2.new.world in
    let coming = c.args.coming in
    let sited = coming.sited.now in
    let comes = something_comes old coming.matched sited.site middle c.in_ok-captures.field-0 c.in-Some.own c.in_ok-captures.ensures.comes
    c.in-Some.is in
    let taken = comes.taken scope (coming_pattern coming) c.requires.sited.site in
    let id = c.in_ok-id-in-Some in
    let is = err_from_is_err_and c.from_residual-in_err-keep_limit-in-Some.result c.from_residual-in_err-keep_limit-in-Some.ensures.1 in
    rw (is.1, is.2)
    (beyond_fails base c.args.locals.now c.in-Some.own.items c.as_slice.result.now (c.as_slice.ensures.value ∙ c.in_ok-all-in-Some.ensures) old
    c.requires.ready sited coming.matched middle
    (later_of c.args.world.now c.captures-2.new.world c.captures-2.ensures.grows c.captures-2.ensures.sound) comes.nodes
    (comes.hold scope (coming_pattern coming) c.requires.sited.site) (comes.only scope (coming_pattern coming) c.requires.sited.site)
    taken.0 taken.1 (plain c.args.body.now) (graph_of c.check.new.world) id.id id.ensures.gives
    id.ensures.least id.ensures.after.later (table_of c.keep_limit.new.world) c.args.limit c.requires.limit (out-Expr c.args.body.now).span.from
    (sym (place_is c.args.body.now)) c.in_err-keep_limit-in-Some.field-0.0 c.in_err-keep_limit-in-Some.ensures.fault)

pub branches::check_match-returns-clause-least : goal.branches::check_match-returns-clause-least
branches::check_match-returns-clause-least t c =
    let base = c.args.base.now in
    let old = graph_of c.args.world.now in
    let nodes = seen_by base c.args.locals.now in
    let value = plain c.args.value.now in
    let first = graph_of c.check.new.world in
    let matched = c.in_ok-matched in
    IfOk-weaker c.check_covering.result _ _
    (match_is_least (scope_of base) old c.requires.ready.sound nodes c.requires.ready.nodes value matched.matched first matched.ensures.after.later
    (known (scope_of base) old nodes first value matched.matched matched.ensures.gives matched.ensures.least) (plain_branches c.args.branches.now)
    (graph_of c.check_covering.new.world))
    c.check_covering.ensures.least

pub branches::check_match-returns-clause-fault : goal.branches::check_match-returns-clause-fault
branches::check_match-returns-clause-fault t c =
    let base = c.args.base.now in
    let old = graph_of c.args.world.now in
    let nodes = seen_by base c.args.locals.now in
    let value = plain c.args.value.now in
    let first = graph_of c.check.new.world in
    let matched = c.in_ok-matched in
    IfErr-weaker c.check_covering.result _ _
    (match_fails (scope_of base) old c.requires.ready.sound nodes c.requires.ready.nodes value matched.matched first matched.ensures.after.later
    (known (scope_of base) old nodes first value matched.matched matched.ensures.gives matched.ensures.least) (plain_branches c.args.branches.now)
    (table_of c.check_covering.new.world) c.args.at)
    c.check_covering.ensures.fault

pub branches::check_covering-returns-clause-least : goal.branches::check_covering-returns-clause-least
branches::check_covering-returns-clause-least t c =
    let base = c.args.base.now in
    let scope = scope_of base in
    let old = graph_of c.args.world.now in
    let nodes = seen_by base c.args.locals.now in
    let branches = plain_branches c.args.branches.now in
    let matched = c.args.matched in
    let middle = graph_of c.divide.new.world in
    let last = graph_of c.check_bodies.new.world in
    let results = c.in_ok-results.results.items in
    let is = later_of c.args.world.now c.divide.new.world c.divide.ensures.grows c.divide.ensures.sound in
    union_least scope old nodes last (graph_of c.union.new.world) branches (elements_of old matched) results
    (bodies_least_earlier scope old c.requires.ready.sound nodes c.requires.ready.nodes middle is matched c.requires.matched branches
    (graph_of c.cover.new.world) c.cover.ensures.graph c.in_ok-division.division.matched c.in_ok-division.ensures.matched last results
    c.in_ok-results.ensures.least)
    c.in_ok-union.field-0
    (subst (λ (ids : List NodeId). elements_of (graph_of c.union.new.world) c.in_ok-union.field-0 ⊆ IsInOne (map (typ last) ids))
    c.as_slice.ensures.value c.in_ok-union.ensures.only)

pub branches::check_covering-returns-in_err-cover-clause-fault : goal.branches::check_covering-returns-in_err-cover-clause-fault
branches::check_covering-returns-in_err-cover-clause-fault t c =
    let base = c.args.base.now in
    let scope = scope_of base in
    let old = graph_of c.args.world.now in
    let nodes = seen_by base c.args.locals.now in
    let branches = plain_branches c.args.branches.now in
    let matched = c.args.matched in
    let division = c.in_ok-division in
    let middle = graph_of c.divide.new.world in
    let table = table_of c.cover.new.world in
    let error = c.in_err-cover.field-0.0 in
    let is = err_from_is_err_and c.from_residual-in_err-cover.result c.from_residual-in_err-cover.ensures.1 in
    let later = later_of c.args.world.now c.divide.new.world c.divide.ensures.grows c.divide.ensures.sound in
    rw (is.1, is.2)
    (fails_more old nodes table (λ types. IsUncovered scope c.args.at branches (elements_of old matched))
    (λ types. CoveringFault scope types c.args.at (elements_of old matched) (Nothing scope) branches) (λ types of at reported d uncovered. inl uncovered)
    error
    (uncovered_fails scope old nodes middle branches (elements_of old matched) division.division.rest
    (none_takes_earlier old middle later c.requires.ready.sound matched c.requires.matched scope branches division.division.matched
    division.ensures.matched division.division.comings.items division.division.rest
    (division.ensures.patterns) division.ensures.division)
    c.args.at table error c.in_err-cover.ensures.fault))

pub branches::check_covering-returns-in_err-results-clause-fault : goal.branches::check_covering-returns-in_err-results-clause-fault
branches::check_covering-returns-in_err-results-clause-fault t c =
    let base = c.args.base.now in
    let scope = scope_of base in
    let old = graph_of c.args.world.now in
    let nodes = seen_by base c.args.locals.now in
    let branches = plain_branches c.args.branches.now in
    let matched = c.args.matched in
    let table = table_of c.check_bodies.new.world in
    let error = c.in_err-results.field-0.0 in
    let is = err_from_is_err_and c.from_residual-in_err-results.result c.from_residual-in_err-results.ensures.1 in
    let later = later_of c.args.world.now c.divide.new.world c.divide.ensures.grows c.divide.ensures.sound in
    rw (is.1, is.2)
    (fails_more old nodes table (λ types. BranchFault scope types [] (elements_of old matched) (Nothing scope) branches)
    (λ types. CoveringFault scope types c.args.at (elements_of old matched) (Nothing scope) branches) (λ types of at reported d fault. inr fault) error
    (branches_fail_earlier scope old c.requires.ready.sound nodes c.requires.ready.nodes (graph_of c.divide.new.world) later matched
    c.requires.matched branches (graph_of c.cover.new.world) c.cover.ensures.graph c.in_ok-division.division.matched
    c.in_ok-division.ensures.matched None tt table error c.in_err-results.ensures.fault))

pub branches::check_some-returns-clause-least : goal.branches::check_some-returns-clause-least
branches::check_some-returns-clause-least t c =
    let base = c.args.base.now in
    let scope = scope_of base in
    let old = graph_of c.args.world.now in
    let nodes = seen_by base c.args.locals.now in
    let branches = plain_branches c.args.branches.now in
    let matched = c.args.matched in
    let middle = graph_of c.divide.new.world in
    let is = later_of c.args.world.now c.divide.new.world c.divide.ensures.grows c.divide.ensures.sound in
    IfOk-weaker c.check_bodies.result _ _
    (λ results. bodies_least_earlier scope old c.requires.ready.sound nodes c.requires.ready.nodes middle is matched c.requires.matched branches
    middle refl c.in_ok-division.division.matched c.in_ok-division.ensures.matched (graph_of c.check_bodies.new.world) results.items)
    c.check_bodies.ensures.least

pub branches::check_some-returns-clause-fault : goal.branches::check_some-returns-clause-fault
branches::check_some-returns-clause-fault t c =
    let base = c.args.base.now in
    let scope = scope_of base in
    let old = graph_of c.args.world.now in
    let nodes = seen_by base c.args.locals.now in
    let branches = plain_branches c.args.branches.now in
    let matched = c.args.matched in
    let middle = graph_of c.divide.new.world in
    let is = later_of c.args.world.now c.divide.new.world c.divide.ensures.grows c.divide.ensures.sound in
    IfErr-weaker c.check_bodies.result _ _
    (branches_fail_earlier scope old c.requires.ready.sound nodes c.requires.ready.nodes middle is matched c.requires.matched branches
    middle refl c.in_ok-division.division.matched c.in_ok-division.ensures.matched c.args.limit c.requires.limit
    (table_of c.check_bodies.new.world))
    c.check_bodies.ensures.fault

pub branches::check_let-returns-in-Some-clause-least : goal.branches::check_let-returns-in-Some-clause-least
branches::check_let-returns-in-Some-clause-least t c =
    let base = c.args.base.now in
    let scope = scope_of base in
    let old = graph_of c.args.world.now in
    let nodes = seen_by base c.args.locals.now in
    let value = plain c.args.value.now in
    let first = graph_of c.check.new.world in
    let second = graph_of c.remaining.new.world in
    let matched = c.in_ok-matched in
    let is = later_of c.check.new.world c.remaining.new.world c.remaining.ensures.grows c.remaining.ensures.sound in
    let_is_least scope old c.requires.ready.sound nodes c.requires.ready.nodes value matched.matched first matched.ensures.after.later
    (known scope old nodes first value matched.matched matched.ensures.gives matched.ensures.least) second is matched.ensures.after.ready.nodes
    matched.ensures.gives.is_type.is_node (plain_tree c.args.pattern.now) (plain c.args.rest.now) (graph_of c.check_body.new.world) c.in-Some.id
    (body_least_moved scope nodes (graph_of c.check_body.new.world) matched.matched (plain c.args.rest.now) (graph_of c.cover.new.world) second
    c.cover.ensures.graph (sited_pattern c.site_at-sited.result.now) (plain_tree c.args.pattern.now) c.site_at-sited.ensures.pattern
    c.in_ok-id.field-0 (Some c.in-Some.id) c.in-Some.is c.in_ok-id.ensures.least)

pub branches::check_let-returns-in-None-clause-least : goal.branches::check_let-returns-in-None-clause-least
branches::check_let-returns-in-None-clause-least t c =
    let base = c.args.base.now in
    let scope = scope_of base in
    let old = graph_of c.args.world.now in
    let nodes = seen_by base c.args.locals.now in
    let value = plain c.args.value.now in
    let first = graph_of c.check.new.world in
    let second = graph_of c.remaining.new.world in
    let matched = c.in_ok-matched in
    let is = later_of c.check.new.world c.remaining.new.world c.remaining.ensures.grows c.remaining.ensures.sound in
    let ready = c.in_ok-id.ensures.after.ready in
    let_is_empty scope old c.requires.ready.sound nodes c.requires.ready.nodes value matched.matched first matched.ensures.after.later
    (known scope old nodes first value matched.matched matched.ensures.gives matched.ensures.least) second is matched.ensures.after.ready.nodes
    matched.ensures.gives.is_type.is_node (plain_tree c.args.pattern.now) (plain c.args.rest.now) (graph_of c.check_body.new.world)
    ready.more ready.begins
    (body_least_moved scope nodes (graph_of c.check_body.new.world) matched.matched (plain c.args.rest.now) (graph_of c.cover.new.world) second
    c.cover.ensures.graph (sited_pattern c.site_at-sited.result.now) (plain_tree c.args.pattern.now) c.site_at-sited.ensures.pattern
    c.in_ok-id.field-0 None c.in-None.is c.in_ok-id.ensures.least)

pub branches::check_let-returns-in_err-cover-clause-fault : goal.branches::check_let-returns-in_err-cover-clause-fault
branches::check_let-returns-in_err-cover-clause-fault t c =
    let base = c.args.base.now in
    let scope = scope_of base in
    let old = graph_of c.args.world.now in
    let nodes = seen_by base c.args.locals.now in
    let value = plain c.args.value.now in
    let first = graph_of c.check.new.world in
    let second = graph_of c.remaining.new.world in
    let matched = c.in_ok-matched in
    let pattern = plain_tree c.args.pattern.now in
    let rest = plain c.args.rest.now in
    let sited = c.site_at-sited.result.now in
    let table = table_of c.cover.new.world in
    let error = c.in_err-cover.field-0.0 in
    let is = err_from_is_err_and c.from_residual-in_err-cover.result c.from_residual-in_err-cover.ensures.1 in
    let later = later_of c.check.new.world c.remaining.new.world c.remaining.ensures.grows c.remaining.ensures.sound in
    let site = subst (λ (tree : Tree). IsSite first scope tree sited.site) c.site_at-sited.ensures.pattern
    (c.site_at-sited.ensures.sited first scope matched.ensures.after.ready.sited).site in
    rw (is.1, is.2)
    (let_uncovered scope old c.requires.ready.sound nodes c.requires.ready.nodes value matched.matched first matched.ensures.after.later
    (known scope old nodes first value matched.matched matched.ensures.gives matched.ensures.least) second later matched.ensures.after.ready.nodes
    matched.ensures.gives.is_type.is_node pattern rest table c.args.at error
    (uncovered_fails scope second nodes second (ABranch pattern rest NoBranch) (elements_of second matched.matched) c.in_ok-left.left
    (one_untaken first second later matched.ensures.after.later.sound scope pattern sited.site site matched.matched
    matched.ensures.gives.is_type.is_node c.in_ok-left.left (c.in_ok-left.ensures.left scope pattern site) rest)
    c.args.at table error c.in_err-cover.ensures.fault))

pub branches::check_let-returns-in_err-id-clause-fault : goal.branches::check_let-returns-in_err-id-clause-fault
branches::check_let-returns-in_err-id-clause-fault t c =
    let base = c.args.base.now in
    let scope = scope_of base in
    let old = graph_of c.args.world.now in
    let nodes = seen_by base c.args.locals.now in
    let value = plain c.args.value.now in
    let first = graph_of c.check.new.world in
    let second = graph_of c.remaining.new.world in
    let matched = c.in_ok-matched in
    let pattern = plain_tree c.args.pattern.now in
    let rest = plain c.args.rest.now in
    let table = table_of c.check_body.new.world in
    let error = c.in_err-id.field-0.0 in
    let is = err_from_is_err_and c.from_residual-in_err-id.result c.from_residual-in_err-id.ensures.1 in
    let later = later_of c.check.new.world c.remaining.new.world c.remaining.ensures.grows c.remaining.ensures.sound in
    rw (is.1, is.2)
    (let_fails scope old c.requires.ready.sound nodes c.requires.ready.nodes value matched.matched first matched.ensures.after.later
    (known scope old nodes first value matched.matched matched.ensures.gives matched.ensures.least) second later matched.ensures.after.ready.nodes
    matched.ensures.gives.is_type.is_node pattern rest table c.args.at error
    (subst (λ (tree : Tree). BodyFails base second c.args.locals.now table matched.matched None tree rest error) c.site_at-sited.ensures.pattern
    (subst (λ (graph : Graph). BodyFails base graph c.args.locals.now table matched.matched None (sited_pattern c.site_at-sited.result.now) rest error)
    c.cover.ensures.graph c.in_err-id.ensures.fault)))

pub branches::check_try-returns-clause-least : goal.branches::check_try-returns-clause-least
branches::check_try-returns-clause-least t c =
    let base = c.args.base.now in
    let scope = scope_of base in
    let old = graph_of c.args.world.now in
    let nodes = seen_by base c.args.locals.now in
    let body = plain c.args.body.now in
    let first = graph_of c.check.new.world in
    let second = graph_of c.check_some.new.world in
    let id = c.in_ok-id in
    try_is_least scope old c.requires.ready.sound nodes c.requires.ready.nodes body id.id first id.ensures.after.later
    (known scope old nodes first body id.id id.ensures.gives id.ensures.least) (plain_branches c.args.branches.now) id.ensures.after.ready.more
    id.ensures.after.ready.begins second (graph_of c.union.new.world) c.in_ok-results.ensures.after.later id.ensures.gives.is_type.is_node
    c.in_ok-results.results.items c.in_ok-union.field-0 c.in_ok-results.ensures.least
    (subst (λ (ids : List NodeId). elements_of (graph_of c.union.new.world) c.in_ok-union.field-0 ⊆ IsInOne (map (typ second) ids))
    (c.as_slice.ensures.value ∙ c.in_ok-add.ensures) c.in_ok-union.ensures.only)

pub branches::check_try-returns-in_err-results-clause-fault : goal.branches::check_try-returns-in_err-results-clause-fault
branches::check_try-returns-in_err-results-clause-fault t c =
    let base = c.args.base.now in
    let scope = scope_of base in
    let old = graph_of c.args.world.now in
    let nodes = seen_by base c.args.locals.now in
    let body = plain c.args.body.now in
    let first = graph_of c.check.new.world in
    let id = c.in_ok-id in
    let is = err_from_is_err_and c.from_residual-in_err-results.result c.from_residual-in_err-results.ensures.1 in
    rw (is.1, is.2)
    (λ here. try_fails scope old c.requires.ready.sound nodes c.requires.ready.nodes body id.id first id.ensures.after.later
    (known scope old nodes first body id.id id.ensures.gives id.ensures.least) (plain_branches c.args.branches.now) id.ensures.after.ready.more
    id.ensures.after.ready.begins (table_of c.check_some.new.world) here c.in_err-results.field-0.0 c.in_err-results.ensures.fault)

pub branches::check_map-returns-clause-least : goal.branches::check_map-returns-clause-least
branches::check_map-returns-clause-least t c =
    let base = c.args.base.now in
    let scope = scope_of base in
    let old = graph_of c.args.world.now in
    let nodes = seen_by base c.args.locals.now in
    let value = plain c.args.value.now in
    let first = graph_of c.check.new.world in
    let second = graph_of c.items.new.world in
    let list = c.in_ok-list in
    let item = c.in_ok-matched in
    map_is_least scope old c.requires.ready.sound nodes c.requires.ready.nodes value list.list first list.ensures.after.later
    (known scope old nodes first value list.list list.ensures.gives list.ensures.least) (plain_branches c.args.branches.now) second
    (subst (λ (graph : Graph). IsLater graph second) c.need_at.ensures.graph
    (later_of c.need_at.new.world c.items.new.world c.items.ensures.grows c.items.ensures.sound)) list.ensures.after.ready.nodes item.matched
    (subst (λ (graph : Graph). IsItemOf (elements_of graph list.list) ⊆ elements_of second item.matched) c.need_at.ensures.graph item.ensures.has)
    (subst (λ (graph : Graph). elements_of second item.matched ⊆ IsItemOf (elements_of graph list.list)) c.need_at.ensures.graph item.ensures.only)
    (graph_of c.check_covering.new.world) (graph_of c.list_of.new.world) c.in_ok-result.result c.in_ok-list_of.field-0
    c.in_ok-result.ensures.least c.in_ok-list_of.ensures.only

pub branches::check_map-returns-in_err-need_at-clause-fault : goal.branches::check_map-returns-in_err-need_at-clause-fault
branches::check_map-returns-in_err-need_at-clause-fault t c =
    let base = c.args.base.now in
    let scope = scope_of base in
    let old = graph_of c.args.world.now in
    let nodes = seen_by base c.args.locals.now in
    let value = plain c.args.value.now in
    let first = graph_of c.check.new.world in
    let branches = plain_branches c.args.branches.now in
    let list = c.in_ok-list in
    let table = table_of c.need_at.new.world in
    let error = c.in_err-need_at.field-0.0 in
    let tools = list.ensures.after.ready.tools in
    let is = err_from_is_err_and c.from_residual-in_err-need_at.result c.from_residual-in_err-need_at.ensures.1 in
    rw (is.1, is.2)
    (fails_more old nodes table (λ types. Breaks scope types value IsSequence rule.Sequence)
    (λ types. KindFault scope types c.args.at (Map value branches)) (λ types of at reported d fault. inr (inl fault)) error
    (breaks scope old nodes first value list.list (known scope old nodes first value list.list list.ensures.gives list.ensures.least)
    base.tools.sequences IsSequence tools.all_sequences (out-Expr c.args.value.now).span.from (sym (place_is c.args.value.now)) rule.Sequence
    table error c.in_err-need_at.ensures.fault))

pub branches::check_map-returns-in_err-result-clause-fault : goal.branches::check_map-returns-in_err-result-clause-fault
branches::check_map-returns-in_err-result-clause-fault t c =
    let base = c.args.base.now in
    let scope = scope_of base in
    let old = graph_of c.args.world.now in
    let nodes = seen_by base c.args.locals.now in
    let value = plain c.args.value.now in
    let first = graph_of c.check.new.world in
    let second = graph_of c.items.new.world in
    let item = c.in_ok-matched in
    let list = c.in_ok-list in
    let is = err_from_is_err_and c.from_residual-in_err-result.result c.from_residual-in_err-result.ensures.1 in
    rw (is.1, is.2)
    (map_fails scope old c.requires.ready.sound nodes c.requires.ready.nodes value list.list first list.ensures.after.later
    (known scope old nodes first value list.list list.ensures.gives list.ensures.least) (plain_branches c.args.branches.now) second
    (subst (λ (graph : Graph). IsLater graph second) c.need_at.ensures.graph
    (later_of c.need_at.new.world c.items.new.world c.items.ensures.grows c.items.ensures.sound)) list.ensures.after.ready.nodes item.matched
    (subst (λ (graph : Graph). IsItemOf (elements_of graph list.list) ⊆ elements_of second item.matched) c.need_at.ensures.graph item.ensures.has)
    (subst (λ (graph : Graph). elements_of second item.matched ⊆ IsItemOf (elements_of graph list.list)) c.need_at.ensures.graph item.ensures.only)
    (table_of c.check_covering.new.world) c.args.at c.in_err-result.field-0.0 c.in_err-result.ensures.fault)

pub branches::check_transform-returns-clause-least : goal.branches::check_transform-returns-clause-least
branches::check_transform-returns-clause-least t c =
    let base = c.args.base.now in
    let scope = scope_of base in
    let old = graph_of c.args.world.now in
    let nodes = seen_by base c.args.locals.now in
    let value = plain c.args.value.now in
    let first = graph_of c.check.new.world in
    let second = graph_of c.items.new.world in
    let third = graph_of c.check_some.new.world in
    let list = c.in_ok-list in
    let item = c.in_ok-matched in
    transform_is_least scope old c.requires.ready.sound nodes c.requires.ready.nodes value list.list first list.ensures.after.later
    (known scope old nodes first value list.list list.ensures.gives list.ensures.least) (plain_branches c.args.branches.now) second
    (subst (λ (graph : Graph). IsLater graph second) c.need_at.ensures.graph
    (later_of c.need_at.new.world c.items.new.world c.items.ensures.grows c.items.ensures.sound)) list.ensures.after.ready.nodes item.matched
    (subst (λ (graph : Graph). IsItemOf (elements_of graph list.list) ⊆ elements_of second item.matched) c.need_at.ensures.graph item.ensures.has)
    (subst (λ (graph : Graph). elements_of second item.matched ⊆ IsItemOf (elements_of graph list.list)) c.need_at.ensures.graph item.ensures.only)
    third (graph_of c.union.new.world) (graph_of c.items-2.new.world) (graph_of c.list_of.new.world) c.in_ok-results.results.items
    c.in_ok-lists.lists c.in_ok-item.item c.in_ok-list_of.field-0 c.in_ok-results.ensures.least
    (subst (λ (ids : List NodeId). elements_of (graph_of c.union.new.world) c.in_ok-lists.lists ⊆ IsInOne (map (typ third) ids))
    c.as_slice.ensures.value c.in_ok-lists.ensures.only)
    c.in_ok-item.ensures.only c.in_ok-list_of.ensures.only

pub branches::check_transform-returns-in_err-need_at-clause-fault : goal.branches::check_transform-returns-in_err-need_at-clause-fault
branches::check_transform-returns-in_err-need_at-clause-fault t c =
    let base = c.args.base.now in
    let scope = scope_of base in
    let old = graph_of c.args.world.now in
    let nodes = seen_by base c.args.locals.now in
    let value = plain c.args.value.now in
    let first = graph_of c.check.new.world in
    let branches = plain_branches c.args.branches.now in
    let list = c.in_ok-list in
    let table = table_of c.need_at.new.world in
    let error = c.in_err-need_at.field-0.0 in
    let tools = list.ensures.after.ready.tools in
    let is = err_from_is_err_and c.from_residual-in_err-need_at.result c.from_residual-in_err-need_at.ensures.1 in
    rw (is.1, is.2)
    (λ here. fails_more old nodes table (λ types. Breaks scope types value IsSequence rule.Sequence)
    (λ types. KindFault scope types here (Transform value branches)) (λ types of at reported d fault. inr (inl fault)) error
    (breaks scope old nodes first value list.list (known scope old nodes first value list.list list.ensures.gives list.ensures.least)
    base.tools.sequences IsSequence tools.all_sequences (out-Expr c.args.value.now).span.from (sym (place_is c.args.value.now)) rule.Sequence
    table error c.in_err-need_at.ensures.fault))

pub branches::check_transform-returns-in_err-results-clause-fault : goal.branches::check_transform-returns-in_err-results-clause-fault
branches::check_transform-returns-in_err-results-clause-fault t c =
    let base = c.args.base.now in
    let scope = scope_of base in
    let old = graph_of c.args.world.now in
    let nodes = seen_by base c.args.locals.now in
    let value = plain c.args.value.now in
    let first = graph_of c.check.new.world in
    let second = graph_of c.items.new.world in
    let item = c.in_ok-matched in
    let list = c.in_ok-list in
    let limit : Limit = record { node = base.tools.sequences; rule = rule.BranchSequence } in
    let later = subst (λ (graph : Graph). IsLater graph second) c.need_at.ensures.graph
    (later_of c.need_at.new.world c.items.new.world c.items.ensures.grows c.items.ensures.sound) in
    let tools = tools_later first second later list.ensures.after.later.sound base.tools list.ensures.after.ready.tools in
    let is = err_from_is_err_and c.from_residual-in_err-results.result c.from_residual-in_err-results.ensures.1 in
    rw (is.1, is.2)
    (λ here. transform_fails scope old c.requires.ready.sound nodes c.requires.ready.nodes value list.list first list.ensures.after.later
    (known scope old nodes first value list.list list.ensures.gives list.ensures.least) (plain_branches c.args.branches.now) second
    (subst (λ (graph : Graph). IsLater graph second) c.need_at.ensures.graph
    (later_of c.need_at.new.world c.items.new.world c.items.ensures.grows c.items.ensures.sound)) list.ensures.after.ready.nodes item.matched
    (subst (λ (graph : Graph). IsItemOf (elements_of graph list.list) ⊆ elements_of second item.matched) c.need_at.ensures.graph item.ensures.has)
    (subst (λ (graph : Graph). elements_of second item.matched ⊆ IsItemOf (elements_of graph list.list)) c.need_at.ensures.graph item.ensures.only)
    limit refl tools.all_sequences (table_of c.check_some.new.world) here c.in_err-results.field-0.0 c.in_err-results.ensures.fault)

pub expr::check_kind-returns-in_ok-constant_node-in-Constant-clause-least : goal.expr::check_kind-returns-in_ok-constant_node-in-Constant-clause-least
expr::check_kind-returns-in_ok-constant_node-in-Constant-clause-least t c =
    let base = c.args.base.now in
    let new = graph_of c.constant_node.new.world in
    let id = c.in_ok-constant_node-in-Constant.field-0 in
    subst (λ (kind : Kind). IsBelow (graph_of c.args.world.now) (seen_by base c.args.locals.now) new
    (λ types t. KindHas (scope_of base) types kind t) id) (sym (ap plain_kind c.in-Constant.is ∙ kind_constant c.in-Constant.is'))
    (λ types of t is_type has. constant_least (scope_of base) types c.in-Constant.is' (typ new id) c.in_ok-constant_node-in-Constant.ensures.only
    t has)

pub expr::check_kind-returns-in-Some-clause-least : goal.expr::check_kind-returns-in-Some-clause-least
expr::check_kind-returns-in-Some-clause-least t c =
    let base = c.args.base.now in
    let old = graph_of c.args.world.now in
    let nodes = seen_by base c.args.locals.now in
    let name = c.in-Variable.name in
    let id = c.in-Some.id in
    subst (λ (kind : Kind). IsBelow old nodes old (λ types t. KindHas (scope_of base) types kind t) id)
    (sym (ap plain_kind c.in-Variable.is ∙ kind_variable name))
    (variable_below (scope_of base) old nodes name id (sym c.find.ensures ∙ c.in-Some.is))

pub expr::check_call-returns-in-Ok-clause-least : goal.expr::check_call-returns-in-Ok-clause-least
expr::check_call-returns-in-Ok-clause-least t c = λ types of t is_type has.
    c.in-Ok.ensures.least.within has.0 t (c.in_ok-id.ensures.least types of has.0 has.1 has.2) has.3

pub operands::check_tuple-returns-clause-least : goal.operands::check_tuple-returns-clause-least
operands::check_tuple-returns-clause-least t c =
    let made = graph_of c.tuple.new.world in
    let id = c.in_ok-tuple.field-0 in
    let parts = graph_of c.check_exprs.new.world in
    λ types of t is_type has. tuple_least (scope_of c.args.base.now) types (plain_exprs c.args.exprs.now)
    (map (typ parts) c.in_ok-parts.parts.items) (typ made id) (c.in_ok-parts.ensures.least types of)
    (subst (λ (ids : List NodeId). elements_of made id ⊆ IsTupleOf (map (typ parts) ids)) c.as_slice.ensures.value
    c.in_ok-tuple.ensures.only) t has

pub operands::check_exprs-returns-clause-least : goal.operands::check_exprs-returns-clause-least
operands::check_exprs-returns-clause-least t c =
    let base = c.args.base.now in
    let items = c.items-expr-items.result.now in
    let index = c.loop-expr.expr-index in
    let before = c.loop-expr.invariant in
    λ types of. goes_to_end (ExprsLeast (scope_of base)) (graph_of c.args.world.now) (seen_by base c.args.locals.now)
    (graph_of c.loop-expr.world) before.0.ready.sound (plain_exprs c.args.exprs.now) (exprs_of (map plain (drop index items)))
    c.loop-expr.parts.items before.2 types of
    (subst (λ (rest : List CodeExpr). ExprsLeast (scope_of base) types (exprs_of (map plain rest)) [])
    (sym (drop_all index items c.loop-expr-test.false)) (none_least (scope_of base) types))

pub operands::check_exprs-returns-in_err-id-clause-fault : goal.operands::check_exprs-returns-in_err-id-clause-fault
operands::check_exprs-returns-in_err-id-clause-fault t c =
    let is = err_from_is_err_and c.from_residual.result c.from_residual.ensures.1 in
    let base = c.args.base.now in
    let before = c.loop-expr.invariant in
    rw (is.1, is.2) (expr_fails (scope_of base) (plain_exprs c.args.exprs.now) c.items-expr-items.result.now c.loop-expr.expr-index
    c.expr-item.result c.expr-item.is c.loop-expr-test.true before.3 (graph_of c.args.world.now) (graph_of c.loop-expr.world) before.0.later
    c.requires.ready.sound (seen_by base c.args.locals.now) c.requires.ready.nodes (table_of c.check.new.world) c.in_err-id.field-0.0
    c.in_err-id.ensures.fault)

pub operands::check_sequence-returns-clause-least : goal.operands::check_sequence-returns-clause-least
operands::check_sequence-returns-clause-least t c =
    let made = graph_of c.sequence.new.world in
    let id = c.in_ok-sequence.field-0 in
    let types_of_parts = map (typ (graph_of c.check_items.new.world)) c.in_ok-parts.parts.items in
    λ types of t is_type has. sequence_least (scope_of c.args.base.now) types (plain_items c.args.items.now) types_of_parts (typ made id)
    (c.in_ok-parts.ensures.least types of)
    (subst (λ (items : Items). elements_of made id ⊆ IsSequenceOf items types_of_parts) c.items.ensures c.in_ok-sequence.ensures.only) t has

pub operands::check_items-returns-clause-least : goal.operands::check_items-returns-clause-least
operands::check_items-returns-clause-least t c =
    let base = c.args.base.now in
    let items = c.items-item-items.result.now in
    let index = c.loop-item.item-index in
    let before = c.loop-item.invariant in
    λ types of. goes_to_end (ItemsLeast (scope_of base)) (graph_of c.args.world.now) (seen_by base c.args.locals.now)
    (graph_of c.loop-item.world) before.0.ready.sound (plain_items c.args.items.now) (items_of (map plain_item (drop index items)))
    c.loop-item.parts.items before.2 types of
    (subst (λ (rest : List CodeItem). ItemsLeast (scope_of base) types (items_of (map plain_item rest)) [])
    (sym (drop_all index items c.loop-item-test.false)) (no_item_least (scope_of base) types))

pub operands::check_items-returns-in_err-id-clause-fault : goal.operands::check_items-returns-in_err-id-clause-fault
operands::check_items-returns-in_err-id-clause-fault t c =
    let is = err_from_is_err_and c.from_residual.result c.from_residual.ensures.1 in
    let base = c.args.base.now in
    let before = c.loop-item.invariant in
    rw (is.1, is.2) (item_fails (scope_of base) (plain_items c.args.items.now) c.items-item-items.result.now c.loop-item.item-index
    c.item-item.result c.item-item.is c.loop-item-test.true before.3 (graph_of c.args.world.now) (graph_of c.loop-item.world) before.0.later
    c.requires.ready.sound (seen_by base c.args.locals.now) c.requires.ready.nodes (table_of c.check_item.new.world) c.in_err-id.field-0.0
    c.in_err-id.ensures.fault)

pub operands::check_item-returns-in_ok-check-in-One-clause-least : goal.operands::check_item-returns-in_ok-check-in-One-clause-least
operands::check_item-returns-in_ok-check-in-One-clause-least t c =
    let scope = scope_of c.args.base.now in
    let nodes = seen_by c.args.base.now c.args.locals.now in
    let old = graph_of c.args.world.now in
    let new = graph_of c.check.new.world in
    let id = c.in_ok-check-in-One.field-0 in
    let step = c.in_ok-check-in-One.ensures in
    let e = plain c.deref.result.now in
    let same : plain_item c.args.item.now ≡ One e = ap plain_item c.in-One.is ∙ item_one c.in-One.expr
    ∙ ap (λ (is : CodeExpr). One (plain is)) (sym c.deref.ensures) in
    λ rest. subst (λ (item : Item). Steps (ItemsLeast scope) old nodes new (AnItem item rest) rest (id ∷ [])) (sym same)
    (item_least_steps scope old nodes new step.after.ready.sound e id step.gives.is_type.is_node step.least rest)

pub operands::check_item-returns-in_ok-need_at-in-Splice-clause-least : goal.operands::check_item-returns-in_ok-need_at-in-Splice-clause-least
operands::check_item-returns-in_ok-need_at-in-Splice-clause-least t c =
    let scope = scope_of c.args.base.now in
    let nodes = seen_by c.args.base.now c.args.locals.now in
    let old = graph_of c.args.world.now in
    let middle = graph_of c.check-in-Splice.new.world in
    let id = c.in_ok-id-in-Splice.id in
    let step = c.in_ok-id-in-Splice.ensures in
    let e = plain c.deref-in-Splice.result.now in
    let same : plain_item c.args.item.now ≡ Splice e = ap plain_item c.in-Splice.is ∙ item_splice c.in-Splice.expr
    ∙ ap (λ (is : CodeExpr). Splice (plain is)) (sym c.deref-in-Splice.ensures) in
    λ rest. subst (λ (g : Graph). Steps (ItemsLeast scope) old nodes g (AnItem (plain_item c.args.item.now) rest) rest (id ∷ []))
    (sym c.in_ok-need_at-in-Splice.ensures.graph)
    (subst (λ (item : Item). Steps (ItemsLeast scope) old nodes middle (AnItem item rest) rest (id ∷ [])) (sym same)
    (splice_least_steps scope old nodes middle step.after.ready.sound e id step.gives.is_type.is_node step.least rest))

pub operands::check_item-returns-in_err-need_at-in-Splice-clause-fault : goal.operands::check_item-returns-in_err-need_at-in-Splice-clause-fault
operands::check_item-returns-in_err-need_at-in-Splice-clause-fault t c =
    let is = err_from_is_err_and c.from_residual-in_err-need_at-in-Splice.result c.from_residual-in_err-need_at-in-Splice.ensures.1 in
    let scope = scope_of c.args.base.now in
    let nodes = seen_by c.args.base.now c.args.locals.now in
    let old = graph_of c.args.world.now in
    let middle = graph_of c.check-in-Splice.new.world in
    let id = c.in_ok-id-in-Splice.id in
    let step = c.in_ok-id-in-Splice.ensures in
    let e = plain c.deref-in-Splice.result.now in
    let table = table_of c.need_at.new.world in
    let error = c.in_err-need_at-in-Splice.field-0.0 in
    let same : plain_item c.args.item.now ≡ Splice e = ap plain_item c.in-Splice.is ∙ item_splice c.in-Splice.expr
    ∙ ap (λ (is : CodeExpr). Splice (plain is)) (sym c.deref-in-Splice.ensures) in
    let place = sym (place_is c.deref-in-Splice-2.result.now)
    ∙ ap (λ (is : CodeExpr). place_of (plain is)) (c.deref-in-Splice-2.ensures ∙ sym c.deref-in-Splice.ensures) in
    rw (is.1, is.2) (λ rest. subst (λ (item : Item). Fails old nodes table (λ types. ItemsFault scope types (AnItem item rest)) error) (sym same)
    (splice_misfits scope e rest old nodes table error
    (breaks scope old nodes middle e id (known scope old nodes middle e id step.gives step.least) c.args.base.now.tools.sequences IsSequence
    step.after.ready.tools.all_sequences _ place rule.Splice table error c.in_err-need_at-in-Splice.ensures.fault)))

pub operands::check_record-returns-clause-least : goal.operands::check_record-returns-clause-least
operands::check_record-returns-clause-least t c =
    let made = graph_of c.record.new.world in
    let id = c.in_ok-record.field-0 in
    let parts = graph_of c.check_fields.new.world in
    let ids = c.in_ok-parts.parts.items in
    λ types of t is_type has. record_least (scope_of c.args.base.now) types (plain_fields c.args.fields.now) (map (typ parts) ids) (typ made id)
    (c.in_ok-parts.ensures.least types of)
    (subst (λ (fields : Fields). elements_of made id ⊆ IsRecordOf fields (map (typ parts) ids)) c.items.ensures
    (subst (λ (all : List NodeId). elements_of made id ⊆ IsRecordOf (fields_of (map plain_field c.items.result.now)) (map (typ parts) all))
    c.as_slice.ensures.value c.in_ok-record.ensures.only)) t has

pub operands::check_fields-returns-clause-least : goal.operands::check_fields-returns-clause-least
operands::check_fields-returns-clause-least t c =
    let base = c.args.base.now in
    let items = c.items-field-items.result.now in
    let index = c.loop-field.field-index in
    let before = c.loop-field.invariant in
    λ types of. goes_to_end (FieldsLeast (scope_of base)) (graph_of c.args.world.now) (seen_by base c.args.locals.now)
    (graph_of c.loop-field.world) before.0.ready.sound (plain_fields c.args.fields.now) (fields_of (map plain_field (drop index items)))
    c.loop-field.parts.items before.2 types of
    (subst (λ (rest : List CodeField). FieldsLeast (scope_of base) types (fields_of (map plain_field rest)) [])
    (sym (drop_all index items c.loop-field-test.false)) (no_field_least (scope_of base) types))

pub operands::check_fields-returns-in_err-id-clause-fault : goal.operands::check_fields-returns-in_err-id-clause-fault
operands::check_fields-returns-in_err-id-clause-fault t c =
    let is = err_from_is_err_and c.from_residual.result c.from_residual.ensures.1 in
    let base = c.args.base.now in
    let nodes = seen_by base c.args.locals.now in
    let now = graph_of c.loop-field.world in
    let table = table_of c.check.new.world in
    let error = c.in_err-id.field-0.0 in
    let before = c.loop-field.invariant in
    rw (is.1, is.2) (field_fails (scope_of base) (plain_fields c.args.fields.now) c.items-field-items.result.now c.loop-field.field-index
    c.field-item.result c.field-item.is c.loop-field-test.true before.3 (graph_of c.args.world.now) now before.0.later
    c.requires.ready.sound nodes c.requires.ready.nodes table error
    (subst (λ (e : Expr). Fails now nodes table (λ types. Fault (scope_of base) types e) error) (sym (field_expr c.field-item.result))
    c.in_err-id.ensures.fault))

pub operands::check_xml-returns-clause-least : goal.operands::check_xml-returns-clause-least
operands::check_xml-returns-clause-least t c =
    let base = c.args.base.now in
    let locals = c.args.locals.now in
    let scope = scope_of base in
    let nodes = seen_by base locals in
    let old = graph_of c.args.world.now in
    let first = graph_of c.check.new.world in
    let second = graph_of c.check-2.new.world in
    let third = graph_of c.check-3.new.world in
    let one = c.in_ok-first.ensures in
    let two = c.in_ok-second.ensures in
    let three = c.in_ok-third.ensures in
    let tag = c.in_ok-first.first in
    let attributes = c.in_ok-second.second in
    let content = c.in_ok-third.third in
    let made = c.in_ok-xml.field-0 in
    let last = graph_of c.xml.new.world in
    let both_same = c.in_ok-need_at-2.ensures.graph ∙ c.in_ok-need_at.ensures.graph in
    xml_below scope nodes old first second third c.requires.ready.sound c.requires.ready.nodes
    one.after.later two.after.later three.after.later
    (plain c.args.tag.now) (plain c.args.attributes.now) (plain c.args.content.now)
    tag attributes content
    (known scope old nodes first (plain c.args.tag.now) tag one.gives one.least)
    (known scope first nodes second (plain c.args.attributes.now) attributes two.gives two.least)
    last made (known scope second nodes third (plain c.args.content.now) content three.gives three.least)
    (subst (λ (g : Graph). elements_of last made ⊆ IsXmlOf (elements_of g tag) (elements_of g attributes) (elements_of g content))
    both_same c.in_ok-xml.ensures.only)

pub operands::check_xml-returns-in_err-need_at-clause-fault : goal.operands::check_xml-returns-in_err-need_at-clause-fault
operands::check_xml-returns-in_err-need_at-clause-fault t c =
    let base = c.args.base.now in
    let locals = c.args.locals.now in
    let scope = scope_of base in
    let nodes = seen_by base locals in
    let old = graph_of c.args.world.now in
    let first = graph_of c.check.new.world in
    let second = graph_of c.check-2.new.world in
    let third = graph_of c.check-3.new.world in
    let one = c.in_ok-first.ensures in
    let two = c.in_ok-second.ensures in
    let three = c.in_ok-third.ensures in
    let tag = c.in_ok-first.first in
    let attributes = c.in_ok-second.second in
    let content = c.in_ok-third.third in
    let is = err_from_is_err_and c.from_residual-in_err-need_at.result c.from_residual-in_err-need_at.ensures.1 in
    rw (is.1, is.2) (λ here. tag_misfits scope nodes old first second third c.requires.ready.sound c.requires.ready.nodes
    one.after.later two.after.later three.after.later
    (plain c.args.tag.now) (plain c.args.attributes.now) (plain c.args.content.now)
    tag attributes content
    (known scope old nodes first (plain c.args.tag.now) tag one.gives one.least)
    (known scope first nodes second (plain c.args.attributes.now) attributes two.gives two.least)
    here (table_of c.need_at.new.world) c.in_err-need_at.field-0.0
    (built_in_within third three.after.ready.more three.after.ready.begins ATOM (lit< tt)) _ (sym (place_is c.args.tag.now))
    c.in_err-need_at.ensures.fault)

pub operands::check_xml-returns-in_err-need_at-2-clause-fault : goal.operands::check_xml-returns-in_err-need_at-2-clause-fault
operands::check_xml-returns-in_err-need_at-2-clause-fault t c =
    let base = c.args.base.now in
    let locals = c.args.locals.now in
    let scope = scope_of base in
    let nodes = seen_by base locals in
    let old = graph_of c.args.world.now in
    let first = graph_of c.check.new.world in
    let second = graph_of c.check-2.new.world in
    let third = graph_of c.check-3.new.world in
    let one = c.in_ok-first.ensures in
    let two = c.in_ok-second.ensures in
    let three = c.in_ok-third.ensures in
    let tag = c.in_ok-first.first in
    let attributes = c.in_ok-second.second in
    let content = c.in_ok-third.third in
    let table = table_of c.need_at-2.new.world in
    let error = c.in_err-need_at-2.field-0.0 in
    let at = (out-Expr c.args.attributes.now).span.from in
    let is = err_from_is_err_and c.from_residual-in_err-need_at-2.result c.from_residual-in_err-need_at-2.ensures.1 in
    rw (is.1, is.2) (λ here. attributes_misfit scope nodes old first second third c.requires.ready.sound c.requires.ready.nodes
    one.after.later two.after.later three.after.later
    (plain c.args.tag.now) (plain c.args.attributes.now) (plain c.args.content.now)
    tag attributes content
    (known scope old nodes first (plain c.args.tag.now) tag one.gives one.least)
    (known scope first nodes second (plain c.args.attributes.now) attributes two.gives two.least)
    here table error
    (built_in_within third three.after.ready.more three.after.ready.begins RECORD (lit< tt)) at (sym (place_is c.args.attributes.now))
    (subst (λ (g : Graph). IsOutside g table attributes RECORD at rule.Attributes error) c.in_ok-need_at.ensures.graph
    c.in_err-need_at-2.ensures.fault))

pub operands::check_xml-returns-in_err-second-clause-fault : goal.operands::check_xml-returns-in_err-second-clause-fault
operands::check_xml-returns-in_err-second-clause-fault t c =
    let is = err_from_is_err_and c.from_residual-in_err-second.result c.from_residual-in_err-second.ensures.1 in
    rw (is.1, is.2) (λ here. attributes_fail (scope_of c.args.base.now) (seen_by c.args.base.now c.args.locals.now) (graph_of c.args.world.now)
    (graph_of c.check.new.world) c.requires.ready.sound c.requires.ready.nodes c.in_ok-first.ensures.after.later
    (plain c.args.tag.now) (plain c.args.attributes.now) (plain c.args.content.now) here (table_of c.check-2.new.world) c.in_err-second.field-0.0
    c.in_err-second.ensures.fault)

pub operands::check_xml-returns-in_err-third-clause-fault : goal.operands::check_xml-returns-in_err-third-clause-fault
operands::check_xml-returns-in_err-third-clause-fault t c =
    let is = err_from_is_err_and c.from_residual-in_err-third.result c.from_residual-in_err-third.ensures.1 in
    let old = graph_of c.args.world.now in
    let first = graph_of c.check.new.world in
    let second = graph_of c.check-2.new.world in
    rw (is.1, is.2) (λ here. content_fails (scope_of c.args.base.now) (seen_by c.args.base.now c.args.locals.now) old second
    c.requires.ready.sound c.requires.ready.nodes
    (later_still old first second c.in_ok-first.ensures.after.later c.in_ok-second.ensures.after.later)
    (plain c.args.tag.now) (plain c.args.attributes.now) (plain c.args.content.now) here (table_of c.check-3.new.world) c.in_err-third.field-0.0
    c.in_err-third.ensures.fault)

pub chain::check_apply-returns-clause-after : goal.chain::check_apply-returns-clause-after
chain::check_apply-returns-clause-after t c = after_both c.args.base.now c.args.locals.now c.args.world.now c.check.new.world
    c.check_arguments.new.world c.check.ensures.after c.check_arguments.ensures.after

pub function::check_promise-returns-clause-after : goal.function::check_promise-returns-clause-after
function::check_promise-returns-clause-after t c = after_others c.args.base.now c.args.locals.now c.in_ok-inner.inner.items c.args.world.now
    c.loop-argument.world c.requires.ready c.loop-argument.invariant.0

pub function::check_promise-returns-in_err-check_arrow-clause-after : goal.function::check_promise-returns-in_err-check_arrow-clause-after
function::check_promise-returns-in_err-check_arrow-clause-after t c =
    let base = c.args.base.now in
    let inner = c.in_ok-inner.inner.items in
    let start = c.args.world.now in
    let step = subst (λ (names : Nodes). IsAfter base names c.loop-argument.world c.check_arrow.new.world) c.as_slice.ensures.value
    c.check_arrow.ensures.after in
    after_others base c.args.locals.now inner start c.check_arrow.new.world c.requires.ready
    (after_both base inner start c.loop-argument.world c.check_arrow.new.world c.loop-argument.invariant.0 step)

pub expr::check_kind-returns-in_err-constant_node-in-Constant-clause-after : goal.expr::check_kind-returns-in_err-constant_node-in-Constant-clause-after
expr::check_kind-returns-in_err-constant_node-in-Constant-clause-after t c =
    let base = c.args.base.now in
    let locals = c.args.locals.now in
    let start = c.args.world.now in
    after_start base locals start c.constant_node.new.world c.requires.ready c.constant_node.ensures.grows c.constant_node.ensures.sound

pub expr::check_call-returns-in-Err-clause-after : goal.expr::check_call-returns-in-Err-clause-after
expr::check_call-returns-in-Err-clause-after t c =
    let base = c.args.base.now in
    let locals = c.args.locals.now in
    let start = c.args.world.now in
    after_grown base locals start c.check.new.world c.call.new.world c.check.ensures.after c.call.ensures.grows c.call.ensures.sound

pub operands::check_tuple-returns-in_err-tuple-clause-after : goal.operands::check_tuple-returns-in_err-tuple-clause-after
operands::check_tuple-returns-in_err-tuple-clause-after t c =
    let base = c.args.base.now in
    let locals = c.args.locals.now in
    let start = c.args.world.now in
    after_grown base locals start c.check_exprs.new.world c.tuple.new.world c.check_exprs.ensures.after c.tuple.ensures.grows c.tuple.ensures.sound

pub operands::check_exprs-returns-in_err-id-clause-after : goal.operands::check_exprs-returns-in_err-id-clause-after
operands::check_exprs-returns-in_err-id-clause-after t c =
    let base = c.args.base.now in
    let locals = c.args.locals.now in
    let start = c.args.world.now in
    after_both base locals start c.loop-expr.world c.check.new.world c.loop-expr.invariant.0 c.check.ensures.after

pub operands::check_exprs-returns-in_err-add-clause-after : goal.operands::check_exprs-returns-in_err-add-clause-after
operands::check_exprs-returns-in_err-add-clause-after t c =
    let base = c.args.base.now in
    let locals = c.args.locals.now in
    let start = c.args.world.now in
    after_both base locals start c.loop-expr.world c.check.new.world c.loop-expr.invariant.0 c.check.ensures.after

pub operands::check_sequence-returns-in_err-sequence-clause-after : goal.operands::check_sequence-returns-in_err-sequence-clause-after
operands::check_sequence-returns-in_err-sequence-clause-after t c =
    let base = c.args.base.now in
    let locals = c.args.locals.now in
    let start = c.args.world.now in
    after_grown base locals start c.check_items.new.world c.sequence.new.world c.check_items.ensures.after c.sequence.ensures.grows
    c.sequence.ensures.sound

pub operands::check_items-returns-in_err-id-clause-after : goal.operands::check_items-returns-in_err-id-clause-after
operands::check_items-returns-in_err-id-clause-after t c =
    let base = c.args.base.now in
    let locals = c.args.locals.now in
    let start = c.args.world.now in
    after_both base locals start c.loop-item.world c.check_item.new.world c.loop-item.invariant.0 c.check_item.ensures.after

pub operands::check_items-returns-in_err-add-clause-after : goal.operands::check_items-returns-in_err-add-clause-after
operands::check_items-returns-in_err-add-clause-after t c =
    let base = c.args.base.now in
    let locals = c.args.locals.now in
    let start = c.args.world.now in
    after_both base locals start c.loop-item.world c.check_item.new.world c.loop-item.invariant.0 c.check_item.ensures.after

pub operands::check_item-returns-in_err-need_at-in-Splice-clause-after : goal.operands::check_item-returns-in_err-need_at-in-Splice-clause-after
operands::check_item-returns-in_err-need_at-in-Splice-clause-after t c =
    let base = c.args.base.now in
    let locals = c.args.locals.now in
    let start = c.args.world.now in
    after_same base locals start c.check-in-Splice.new.world c.need_at.new.world c.check-in-Splice.ensures.after c.need_at.ensures.graph
    c.need_at.ensures.grows

pub operands::check_item-returns-in_ok-need_at-in-Splice-clause-after : goal.operands::check_item-returns-in_ok-need_at-in-Splice-clause-after
operands::check_item-returns-in_ok-need_at-in-Splice-clause-after t c =
    let base = c.args.base.now in
    let locals = c.args.locals.now in
    let start = c.args.world.now in
    after_same base locals start c.check-in-Splice.new.world c.need_at.new.world c.check-in-Splice.ensures.after c.need_at.ensures.graph
    c.need_at.ensures.grows

pub operands::check_record-returns-in_err-record-clause-after : goal.operands::check_record-returns-in_err-record-clause-after
operands::check_record-returns-in_err-record-clause-after t c =
    let base = c.args.base.now in
    let locals = c.args.locals.now in
    let start = c.args.world.now in
    after_grown base locals start c.check_fields.new.world c.record.new.world c.check_fields.ensures.after c.record.ensures.grows
    c.record.ensures.sound

pub operands::check_fields-returns-in_err-id-clause-after : goal.operands::check_fields-returns-in_err-id-clause-after
operands::check_fields-returns-in_err-id-clause-after t c =
    let base = c.args.base.now in
    let locals = c.args.locals.now in
    let start = c.args.world.now in
    after_both base locals start c.loop-field.world c.check.new.world c.loop-field.invariant.0 c.check.ensures.after

pub operands::check_fields-returns-in_err-add-clause-after : goal.operands::check_fields-returns-in_err-add-clause-after
operands::check_fields-returns-in_err-add-clause-after t c =
    let base = c.args.base.now in
    let locals = c.args.locals.now in
    let start = c.args.world.now in
    after_both base locals start c.loop-field.world c.check.new.world c.loop-field.invariant.0 c.check.ensures.after

pub operands::check_xml-returns-in_err-second-clause-after : goal.operands::check_xml-returns-in_err-second-clause-after
operands::check_xml-returns-in_err-second-clause-after t c =
    let base = c.args.base.now in
    let locals = c.args.locals.now in
    let start = c.args.world.now in
    after_both base locals start c.check.new.world c.check-2.new.world c.check.ensures.after c.check-2.ensures.after

pub operands::check_xml-returns-in_err-third-clause-after : goal.operands::check_xml-returns-in_err-third-clause-after
operands::check_xml-returns-in_err-third-clause-after t c =
    let base = c.args.base.now in
    let locals = c.args.locals.now in
    let start = c.args.world.now in
    let first = after_both base locals start c.check.new.world c.check-2.new.world c.check.ensures.after c.check-2.ensures.after in
    after_both base locals start c.check-2.new.world c.check-3.new.world first c.check-3.ensures.after

pub operands::check_xml-returns-in_err-need_at-clause-after : goal.operands::check_xml-returns-in_err-need_at-clause-after
operands::check_xml-returns-in_err-need_at-clause-after t c =
    let base = c.args.base.now in
    let locals = c.args.locals.now in
    let start = c.args.world.now in
    let first = after_both base locals start c.check.new.world c.check-2.new.world c.check.ensures.after c.check-2.ensures.after in
    let second = after_both base locals start c.check-2.new.world c.check-3.new.world first c.check-3.ensures.after in
    after_same base locals start c.check-3.new.world c.need_at.new.world second c.need_at.ensures.graph c.need_at.ensures.grows

pub operands::check_xml-returns-in_err-need_at-2-clause-after : goal.operands::check_xml-returns-in_err-need_at-2-clause-after
operands::check_xml-returns-in_err-need_at-2-clause-after t c =
    let base = c.args.base.now in
    let locals = c.args.locals.now in
    let start = c.args.world.now in
    let first = after_both base locals start c.check.new.world c.check-2.new.world c.check.ensures.after c.check-2.ensures.after in
    let second = after_both base locals start c.check-2.new.world c.check-3.new.world first c.check-3.ensures.after in
    let third = after_same base locals start c.check-3.new.world c.need_at.new.world second c.need_at.ensures.graph c.need_at.ensures.grows in
    after_same base locals start c.need_at.new.world c.need_at-2.new.world third c.need_at-2.ensures.graph c.need_at-2.ensures.grows

pub operands::check_xml-returns-in_err-xml-clause-after : goal.operands::check_xml-returns-in_err-xml-clause-after
operands::check_xml-returns-in_err-xml-clause-after t c =
    let base = c.args.base.now in
    let locals = c.args.locals.now in
    let start = c.args.world.now in
    let first = after_both base locals start c.check.new.world c.check-2.new.world c.check.ensures.after c.check-2.ensures.after in
    let second = after_both base locals start c.check-2.new.world c.check-3.new.world first c.check-3.ensures.after in
    let third = after_same base locals start c.check-3.new.world c.need_at.new.world second c.need_at.ensures.graph c.need_at.ensures.grows in
    let fourth = after_same base locals start c.need_at.new.world c.need_at-2.new.world third c.need_at-2.ensures.graph c.need_at-2.ensures.grows in
    after_grown base locals start c.need_at-2.new.world c.xml.new.world fourth c.xml.ensures.grows c.xml.ensures.sound

pub function::check_arrow-returns-in_err-division-clause-after : goal.function::check_arrow-returns-in_err-division-clause-after
function::check_arrow-returns-in_err-division-clause-after t c =
    let base = c.args.base.now in
    let locals = c.args.locals.now in
    let start = c.args.world.now in
    after_start base locals start c.divide.new.world c.requires.ready c.divide.ensures.grows c.divide.ensures.sound

pub function::check_arrow-returns-in_err-cover-clause-after : goal.function::check_arrow-returns-in_err-cover-clause-after
function::check_arrow-returns-in_err-cover-clause-after t c =
    let base = c.args.base.now in
    let locals = c.args.locals.now in
    let start = c.args.world.now in
    let first = after_start base locals start c.divide.new.world c.requires.ready c.divide.ensures.grows c.divide.ensures.sound in
    after_same base locals start c.divide.new.world c.cover.new.world first c.cover.ensures.graph c.cover.ensures.grows

pub function::check_arrow-returns-in_err-check_bodies-clause-after : goal.function::check_arrow-returns-in_err-check_bodies-clause-after
function::check_arrow-returns-in_err-check_bodies-clause-after t c =
    let base = c.args.base.now in
    let locals = c.args.locals.now in
    let start = c.args.world.now in
    let first = after_start base locals start c.divide.new.world c.requires.ready c.divide.ensures.grows c.divide.ensures.sound in
    let second = after_same base locals start c.divide.new.world c.cover.new.world first c.cover.ensures.graph c.cover.ensures.grows in
    after_both base locals start c.cover.new.world c.check_bodies.new.world second c.check_bodies.ensures.after

pub chain::check_arguments-returns-in_err-id-clause-after : goal.chain::check_arguments-returns-in_err-id-clause-after
chain::check_arguments-returns-in_err-id-clause-after t c =
    let base = c.args.base.now in
    let locals = c.args.locals.now in
    let start = c.args.world.now in
    after_both base locals start c.loop-argument.world c.check_argument.new.world c.loop-argument.invariant.0 c.check_argument.ensures.after

pub chain::check_argument-returns-in_err-results-clause-after : goal.chain::check_argument-returns-in_err-results-clause-after
chain::check_argument-returns-in_err-results-clause-after t c =
    let base = c.args.base.now in
    let locals = c.args.locals.now in
    let start = c.args.world.now in
    after_grown base locals start c.check.new.world c.apply.new.world c.check.ensures.after c.apply.ensures.grows c.apply.ensures.sound

pub chain::check_argument-returns-in-NotFunction-clause-after : goal.chain::check_argument-returns-in-NotFunction-clause-after
chain::check_argument-returns-in-NotFunction-clause-after t c =
    let base = c.args.base.now in
    let locals = c.args.locals.now in
    let start = c.args.world.now in
    after_grown base locals start c.check.new.world c.apply.new.world c.check.ensures.after c.apply.ensures.grows c.apply.ensures.sound

pub chain::check_argument-returns-in-OutsideDomain-clause-after : goal.chain::check_argument-returns-in-OutsideDomain-clause-after
chain::check_argument-returns-in-OutsideDomain-clause-after t c =
    let base = c.args.base.now in
    let locals = c.args.locals.now in
    let start = c.args.world.now in
    after_grown base locals start c.check.new.world c.apply.new.world c.check.ensures.after c.apply.ensures.grows c.apply.ensures.sound

pub chain::check_tails-returns-in_err-id-clause-after : goal.chain::check_tails-returns-in_err-id-clause-after
chain::check_tails-returns-in_err-id-clause-after t c =
    let base = c.args.base.now in
    let locals = c.args.locals.now in
    let start = c.args.world.now in
    after_both base locals start c.loop-tail.world c.check_tail.new.world c.loop-tail.invariant.0 c.check_tail.ensures.after

pub chain::check_tail-returns-in-Err-clause-after : goal.chain::check_tail-returns-in-Err-clause-after
chain::check_tail-returns-in-Err-clause-after t c =
    let base = c.args.base.now in
    let locals = c.args.locals.now in
    let start = c.args.world.now in
    after_start base locals start c.drop_field.new.world c.requires.ready c.drop_field.ensures.grows c.drop_field.ensures.sound

pub chain::check_tail-returns-in-Err-take_field-clause-after : goal.chain::check_tail-returns-in-Err-take_field-clause-after
chain::check_tail-returns-in-Err-take_field-clause-after t c =
    let base = c.args.base.now in
    let locals = c.args.locals.now in
    let start = c.args.world.now in
    after_start base locals start c.take_field.new.world c.requires.ready c.take_field.ensures.grows c.take_field.ensures.sound

pub chain::check_operand-returns-in-Err-clause-after : goal.chain::check_operand-returns-in-Err-clause-after
chain::check_operand-returns-in-Err-clause-after t c =
    let base = c.args.base.now in
    let locals = c.args.locals.now in
    let start = c.args.world.now in
    after_grown base locals start c.check.new.world c.operate.new.world c.check.ensures.after c.operate.ensures.grows c.operate.ensures.sound

pub test::check_if-returns-in_err-need_at-clause-after : goal.test::check_if-returns-in_err-need_at-clause-after
test::check_if-returns-in_err-need_at-clause-after t c =
    let base = c.args.base.now in
    let locals = c.args.locals.now in
    let start = c.args.world.now in
    after_same base locals start c.check.new.world c.need_at.new.world c.check.ensures.after c.need_at.ensures.graph c.need_at.ensures.grows

pub test::check_if-returns-in_err-one-clause-after : goal.test::check_if-returns-in_err-one-clause-after
test::check_if-returns-in_err-one-clause-after t c =
    let base = c.args.base.now in
    let locals = c.args.locals.now in
    let start = c.args.world.now in
    let first = after_same base locals start c.check.new.world c.need_at.new.world c.check.ensures.after c.need_at.ensures.graph
    c.need_at.ensures.grows in
    after_both base locals start c.need_at.new.world c.check_side.new.world first c.check_side.ensures.after

pub test::check_if-returns-in_err-other-clause-after : goal.test::check_if-returns-in_err-other-clause-after
test::check_if-returns-in_err-other-clause-after t c =
    let base = c.args.base.now in
    let locals = c.args.locals.now in
    let start = c.args.world.now in
    let first = after_same base locals start c.check.new.world c.need_at.new.world c.check.ensures.after c.need_at.ensures.graph
    c.need_at.ensures.grows in
    let second = after_both base locals start c.need_at.new.world c.check_side.new.world first c.check_side.ensures.after in
    after_both base locals start c.check_side.new.world c.check_side-2.new.world second c.check_side-2.ensures.after

pub test::check_if-returns-in_err-either-clause-after : goal.test::check_if-returns-in_err-either-clause-after
test::check_if-returns-in_err-either-clause-after t c =
    let base = c.args.base.now in
    let locals = c.args.locals.now in
    let start = c.args.world.now in
    let first = after_same base locals start c.check.new.world c.need_at.new.world c.check.ensures.after c.need_at.ensures.graph
    c.need_at.ensures.grows in
    let second = after_both base locals start c.need_at.new.world c.check_side.new.world first c.check_side.ensures.after in
    let third = after_both base locals start c.check_side.new.world c.check_side-2.new.world second c.check_side-2.ensures.after in
    after_grown base locals start c.check_side-2.new.world c.either.new.world third c.either.ensures.grows c.either.ensures.sound

pub test::check_short-returns-in_err-need_at-clause-after : goal.test::check_short-returns-in_err-need_at-clause-after
test::check_short-returns-in_err-need_at-clause-after t c =
    let base = c.args.base.now in
    let locals = c.args.locals.now in
    let start = c.args.world.now in
    after_same base locals start start c.need_at.new.world (after_none base locals start c.requires.ready) c.need_at.ensures.graph
    c.need_at.ensures.grows

pub test::check_short-returns-in_err-long-clause-after : goal.test::check_short-returns-in_err-long-clause-after
test::check_short-returns-in_err-long-clause-after t c =
    let base = c.args.base.now in
    let locals = c.args.locals.now in
    let start = c.args.world.now in
    let first = after_same base locals start start c.need_at.new.world (after_none base locals start c.requires.ready) c.need_at.ensures.graph
    c.need_at.ensures.grows in
    after_both base locals start c.need_at.new.world c.check_side.new.world first c.check_side.ensures.after

pub test::check_short-returns-in_err-short-clause-after : goal.test::check_short-returns-in_err-short-clause-after
test::check_short-returns-in_err-short-clause-after t c =
    let base = c.args.base.now in
    let locals = c.args.locals.now in
    let start = c.args.world.now in
    let first = after_same base locals start start c.need_at.new.world (after_none base locals start c.requires.ready) c.need_at.ensures.graph
    c.need_at.ensures.grows in
    let second = after_both base locals start c.need_at.new.world c.check_side.new.world first c.check_side.ensures.after in
    after_same base locals start c.check_side.new.world c.short_side.new.world second c.short_side.ensures.graph c.short_side.ensures.grows

pub test::check_short-returns-in_err-either-clause-after : goal.test::check_short-returns-in_err-either-clause-after
test::check_short-returns-in_err-either-clause-after t c =
    let base = c.args.base.now in
    let locals = c.args.locals.now in
    let start = c.args.world.now in
    let first = after_same base locals start start c.need_at.new.world (after_none base locals start c.requires.ready) c.need_at.ensures.graph
    c.need_at.ensures.grows in
    let second = after_both base locals start c.need_at.new.world c.check_side.new.world first c.check_side.ensures.after in
    let third = after_same base locals start c.check_side.new.world c.short_side.new.world second c.short_side.ensures.graph
    c.short_side.ensures.grows in
    after_grown base locals start c.short_side.new.world c.either.new.world third c.either.ensures.grows c.either.ensures.sound

pub test::check_side-returns-in_err-may_be-clause-after : goal.test::check_side-returns-in_err-may_be-clause-after
test::check_side-returns-in_err-may_be-clause-after t c =
    let base = c.args.base.now in
    let locals = c.args.locals.now in
    let start = c.args.world.now in
    after_same base locals start start c.may_be.new.world (after_none base locals start c.requires.ready) c.may_be.ensures.graph
    c.may_be.ensures.grows

pub test::check_side-returns-in_err-check-clause-after : goal.test::check_side-returns-in_err-check-clause-after
test::check_side-returns-in_err-check-clause-after t c =
    let base = c.args.base.now in
    let locals = c.args.locals.now in
    let start = c.args.world.now in
    let first = after_same base locals start start c.may_be.new.world (after_none base locals start c.requires.ready) c.may_be.ensures.graph
    c.may_be.ensures.grows in
    after_both base locals start c.may_be.new.world c.check.new.world first c.check.ensures.after

pub test::check_side-returns-then-branch-clause-after : goal.test::check_side-returns-then-branch-clause-after
test::check_side-returns-then-branch-clause-after t c =
    let base = c.args.base.now in
    let locals = c.args.locals.now in
    let start = c.args.world.now in
    let first = after_same base locals start start c.may_be.new.world (after_none base locals start c.requires.ready) c.may_be.ensures.graph
    c.may_be.ensures.grows in
    after_both base locals start c.may_be.new.world c.check.new.world first c.check.ensures.after

pub test::check_side-returns-clause-after : goal.test::check_side-returns-clause-after
test::check_side-returns-clause-after t c =
    let base = c.args.base.now in
    let locals = c.args.locals.now in
    let start = c.args.world.now in
    after_same base locals start start c.may_be.new.world (after_none base locals start c.requires.ready) c.may_be.ensures.graph
    c.may_be.ensures.grows

pub branches::check_covering-returns-in_err-division-clause-after : goal.branches::check_covering-returns-in_err-division-clause-after
branches::check_covering-returns-in_err-division-clause-after t c =
    let base = c.args.base.now in
    let locals = c.args.locals.now in
    let start = c.args.world.now in
    after_start base locals start c.divide.new.world c.requires.ready c.divide.ensures.grows c.divide.ensures.sound

pub branches::check_covering-returns-in_err-cover-clause-after : goal.branches::check_covering-returns-in_err-cover-clause-after
branches::check_covering-returns-in_err-cover-clause-after t c =
    let base = c.args.base.now in
    let locals = c.args.locals.now in
    let start = c.args.world.now in
    let first = after_start base locals start c.divide.new.world c.requires.ready c.divide.ensures.grows c.divide.ensures.sound in
    after_same base locals start c.divide.new.world c.cover.new.world first c.cover.ensures.graph c.cover.ensures.grows

pub branches::check_covering-returns-in_err-results-clause-after : goal.branches::check_covering-returns-in_err-results-clause-after
branches::check_covering-returns-in_err-results-clause-after t c =
    let base = c.args.base.now in
    let locals = c.args.locals.now in
    let start = c.args.world.now in
    let first = after_start base locals start c.divide.new.world c.requires.ready c.divide.ensures.grows c.divide.ensures.sound in
    let second = after_same base locals start c.divide.new.world c.cover.new.world first c.cover.ensures.graph c.cover.ensures.grows in
    after_both base locals start c.cover.new.world c.check_bodies.new.world second c.check_bodies.ensures.after

pub branches::check_covering-returns-in_err-union-clause-after : goal.branches::check_covering-returns-in_err-union-clause-after
branches::check_covering-returns-in_err-union-clause-after t c =
    let base = c.args.base.now in
    let locals = c.args.locals.now in
    let start = c.args.world.now in
    let first = after_start base locals start c.divide.new.world c.requires.ready c.divide.ensures.grows c.divide.ensures.sound in
    let second = after_same base locals start c.divide.new.world c.cover.new.world first c.cover.ensures.graph c.cover.ensures.grows in
    let third = after_both base locals start c.cover.new.world c.check_bodies.new.world second c.check_bodies.ensures.after in
    after_grown base locals start c.check_bodies.new.world c.union.new.world third c.union.ensures.grows c.union.ensures.sound

pub branches::check_some-returns-in_err-division-clause-after : goal.branches::check_some-returns-in_err-division-clause-after
branches::check_some-returns-in_err-division-clause-after t c =
    let base = c.args.base.now in
    let locals = c.args.locals.now in
    let start = c.args.world.now in
    after_start base locals start c.divide.new.world c.requires.ready c.divide.ensures.grows c.divide.ensures.sound

pub branches::check_let-returns-in_err-left-clause-after : goal.branches::check_let-returns-in_err-left-clause-after
branches::check_let-returns-in_err-left-clause-after t c =
    let base = c.args.base.now in
    let locals = c.args.locals.now in
    let start = c.args.world.now in
    after_grown base locals start c.check.new.world c.remaining.new.world c.check.ensures.after c.remaining.ensures.grows c.remaining.ensures.sound

pub branches::check_let-returns-in_err-cover-clause-after : goal.branches::check_let-returns-in_err-cover-clause-after
branches::check_let-returns-in_err-cover-clause-after t c =
    let base = c.args.base.now in
    let locals = c.args.locals.now in
    let start = c.args.world.now in
    let first = after_grown base locals start c.check.new.world c.remaining.new.world c.check.ensures.after c.remaining.ensures.grows
    c.remaining.ensures.sound in
    after_same base locals start c.remaining.new.world c.cover.new.world first c.cover.ensures.graph c.cover.ensures.grows

pub branches::check_let-returns-in_err-id-clause-after : goal.branches::check_let-returns-in_err-id-clause-after
branches::check_let-returns-in_err-id-clause-after t c =
    let base = c.args.base.now in
    let locals = c.args.locals.now in
    let start = c.args.world.now in
    let first = after_grown base locals start c.check.new.world c.remaining.new.world c.check.ensures.after c.remaining.ensures.grows
    c.remaining.ensures.sound in
    let second = after_same base locals start c.remaining.new.world c.cover.new.world first c.cover.ensures.graph c.cover.ensures.grows in
    after_both base locals start c.cover.new.world c.check_body.new.world second c.check_body.ensures.after

pub branches::check_try-returns-in_err-results-clause-after : goal.branches::check_try-returns-in_err-results-clause-after
branches::check_try-returns-in_err-results-clause-after t c =
    let base = c.args.base.now in
    let locals = c.args.locals.now in
    let start = c.args.world.now in
    after_both base locals start c.check.new.world c.check_some.new.world c.check.ensures.after c.check_some.ensures.after

pub branches::check_try-returns-in_err-add-clause-after : goal.branches::check_try-returns-in_err-add-clause-after
branches::check_try-returns-in_err-add-clause-after t c =
    let base = c.args.base.now in
    let locals = c.args.locals.now in
    let start = c.args.world.now in
    after_both base locals start c.check.new.world c.check_some.new.world c.check.ensures.after c.check_some.ensures.after

pub branches::check_try-returns-in_err-union-clause-after : goal.branches::check_try-returns-in_err-union-clause-after
branches::check_try-returns-in_err-union-clause-after t c =
    let base = c.args.base.now in
    let locals = c.args.locals.now in
    let start = c.args.world.now in
    let first = after_both base locals start c.check.new.world c.check_some.new.world c.check.ensures.after c.check_some.ensures.after in
    after_grown base locals start c.check_some.new.world c.union.new.world first c.union.ensures.grows c.union.ensures.sound

pub branches::check_map-returns-in_err-need_at-clause-after : goal.branches::check_map-returns-in_err-need_at-clause-after
branches::check_map-returns-in_err-need_at-clause-after t c =
    let base = c.args.base.now in
    let locals = c.args.locals.now in
    let start = c.args.world.now in
    after_same base locals start c.check.new.world c.need_at.new.world c.check.ensures.after c.need_at.ensures.graph c.need_at.ensures.grows

pub branches::check_map-returns-in_err-matched-clause-after : goal.branches::check_map-returns-in_err-matched-clause-after
branches::check_map-returns-in_err-matched-clause-after t c =
    let base = c.args.base.now in
    let locals = c.args.locals.now in
    let start = c.args.world.now in
    let first = after_same base locals start c.check.new.world c.need_at.new.world c.check.ensures.after c.need_at.ensures.graph
    c.need_at.ensures.grows in
    after_grown base locals start c.need_at.new.world c.items.new.world first c.items.ensures.grows c.items.ensures.sound

pub branches::check_map-returns-in_err-result-clause-after : goal.branches::check_map-returns-in_err-result-clause-after
branches::check_map-returns-in_err-result-clause-after t c =
    let base = c.args.base.now in
    let locals = c.args.locals.now in
    let start = c.args.world.now in
    let first = after_same base locals start c.check.new.world c.need_at.new.world c.check.ensures.after c.need_at.ensures.graph
    c.need_at.ensures.grows in
    let second = after_grown base locals start c.need_at.new.world c.items.new.world first c.items.ensures.grows c.items.ensures.sound in
    after_both base locals start c.items.new.world c.check_covering.new.world second c.check_covering.ensures.after

pub branches::check_map-returns-in_err-list_of-clause-after : goal.branches::check_map-returns-in_err-list_of-clause-after
branches::check_map-returns-in_err-list_of-clause-after t c =
    let base = c.args.base.now in
    let locals = c.args.locals.now in
    let start = c.args.world.now in
    let first = after_same base locals start c.check.new.world c.need_at.new.world c.check.ensures.after c.need_at.ensures.graph
    c.need_at.ensures.grows in
    let second = after_grown base locals start c.need_at.new.world c.items.new.world first c.items.ensures.grows c.items.ensures.sound in
    let third = after_both base locals start c.items.new.world c.check_covering.new.world second c.check_covering.ensures.after in
    after_grown base locals start c.check_covering.new.world c.list_of.new.world third c.list_of.ensures.grows c.list_of.ensures.sound

pub branches::check_transform-returns-in_err-need_at-clause-after : goal.branches::check_transform-returns-in_err-need_at-clause-after
branches::check_transform-returns-in_err-need_at-clause-after t c =
    let base = c.args.base.now in
    let locals = c.args.locals.now in
    let start = c.args.world.now in
    after_same base locals start c.check.new.world c.need_at.new.world c.check.ensures.after c.need_at.ensures.graph c.need_at.ensures.grows

pub branches::check_transform-returns-in_err-matched-clause-after : goal.branches::check_transform-returns-in_err-matched-clause-after
branches::check_transform-returns-in_err-matched-clause-after t c =
    let base = c.args.base.now in
    let locals = c.args.locals.now in
    let start = c.args.world.now in
    let first = after_same base locals start c.check.new.world c.need_at.new.world c.check.ensures.after c.need_at.ensures.graph
    c.need_at.ensures.grows in
    after_grown base locals start c.need_at.new.world c.items.new.world first c.items.ensures.grows c.items.ensures.sound

pub branches::check_transform-returns-in_err-results-clause-after : goal.branches::check_transform-returns-in_err-results-clause-after
branches::check_transform-returns-in_err-results-clause-after t c =
    let base = c.args.base.now in
    let locals = c.args.locals.now in
    let start = c.args.world.now in
    let first = after_same base locals start c.check.new.world c.need_at.new.world c.check.ensures.after c.need_at.ensures.graph
    c.need_at.ensures.grows in
    let second = after_grown base locals start c.need_at.new.world c.items.new.world first c.items.ensures.grows c.items.ensures.sound in
    after_both base locals start c.items.new.world c.check_some.new.world second c.check_some.ensures.after

pub branches::check_transform-returns-in_err-lists-clause-after : goal.branches::check_transform-returns-in_err-lists-clause-after
branches::check_transform-returns-in_err-lists-clause-after t c =
    let base = c.args.base.now in
    let locals = c.args.locals.now in
    let start = c.args.world.now in
    let first = after_same base locals start c.check.new.world c.need_at.new.world c.check.ensures.after c.need_at.ensures.graph
    c.need_at.ensures.grows in
    let second = after_grown base locals start c.need_at.new.world c.items.new.world first c.items.ensures.grows c.items.ensures.sound in
    let third = after_both base locals start c.items.new.world c.check_some.new.world second c.check_some.ensures.after in
    after_grown base locals start c.check_some.new.world c.union.new.world third c.union.ensures.grows c.union.ensures.sound

pub branches::check_transform-returns-in_err-item-clause-after : goal.branches::check_transform-returns-in_err-item-clause-after
branches::check_transform-returns-in_err-item-clause-after t c =
    let base = c.args.base.now in
    let locals = c.args.locals.now in
    let start = c.args.world.now in
    let first = after_same base locals start c.check.new.world c.need_at.new.world c.check.ensures.after c.need_at.ensures.graph
    c.need_at.ensures.grows in
    let second = after_grown base locals start c.need_at.new.world c.items.new.world first c.items.ensures.grows c.items.ensures.sound in
    let third = after_both base locals start c.items.new.world c.check_some.new.world second c.check_some.ensures.after in
    let fourth = after_grown base locals start c.check_some.new.world c.union.new.world third c.union.ensures.grows c.union.ensures.sound in
    after_grown base locals start c.union.new.world c.items-2.new.world fourth c.items-2.ensures.grows c.items-2.ensures.sound

pub branches::check_transform-returns-in_err-list_of-clause-after : goal.branches::check_transform-returns-in_err-list_of-clause-after
branches::check_transform-returns-in_err-list_of-clause-after t c =
    let base = c.args.base.now in
    let locals = c.args.locals.now in
    let start = c.args.world.now in
    let first = after_same base locals start c.check.new.world c.need_at.new.world c.check.ensures.after c.need_at.ensures.graph
    c.need_at.ensures.grows in
    let second = after_grown base locals start c.need_at.new.world c.items.new.world first c.items.ensures.grows c.items.ensures.sound in
    let third = after_both base locals start c.items.new.world c.check_some.new.world second c.check_some.ensures.after in
    let fourth = after_grown base locals start c.check_some.new.world c.union.new.world third c.union.ensures.grows c.union.ensures.sound in
    let fifth = after_grown base locals start c.union.new.world c.items-2.new.world fourth c.items-2.ensures.grows c.items-2.ensures.sound in
    after_grown base locals start c.items-2.new.world c.list_of.new.world fifth c.list_of.ensures.grows c.list_of.ensures.sound

pub bodies::check_bodies-returns-in_err-id-clause-after : goal.bodies::check_bodies-returns-in_err-id-clause-after
bodies::check_bodies-returns-in_err-id-clause-after t c =
    let base = c.args.base.now in
    let locals = c.args.locals.now in
    let start = c.args.world.now in
    after_both base locals start c.loop-number.world c.check_body.new.world c.loop-number.invariant.after c.check_body.ensures.after

pub bodies::check_bodies-returns-in_err-add-clause-after : goal.bodies::check_bodies-returns-in_err-add-clause-after
bodies::check_bodies-returns-in_err-add-clause-after t c =
    let base = c.args.base.now in
    let locals = c.args.locals.now in
    let start = c.args.world.now in
    after_both base locals start c.loop-number.world c.check_body.new.world c.loop-number.invariant.after c.check_body.ensures.after

pub bodies::check_body-returns-in_err-captures-clause-after : goal.bodies::check_body-returns-in_err-captures-clause-after
bodies::check_body-returns-in_err-captures-clause-after t c =
    let base = c.args.base.now in
    let locals = c.args.locals.now in
    let start = c.args.world.now in
    after_start base locals start c.captures-2.new.world c.requires.ready c.captures-2.ensures.grows c.captures-2.ensures.sound

pub bodies::check_body-returns-in_err-all-in-Some-clause-after : goal.bodies::check_body-returns-in_err-all-in-Some-clause-after
bodies::check_body-returns-in_err-all-in-Some-clause-after t c =
    let base = c.args.base.now in
    let locals = c.args.locals.now in
    let start = c.args.world.now in
    after_start base locals start c.captures-2.new.world c.requires.ready c.captures-2.ensures.grows c.captures-2.ensures.sound

pub bodies::check_body-returns-in_err-id-in-Some-clause-after : goal.bodies::check_body-returns-in_err-id-in-Some-clause-after
bodies::check_body-returns-in_err-id-in-Some-clause-after t c =
    let base = c.args.base.now in
    let locals = c.args.locals.now in
    let start = c.args.world.now in
    after_all base locals c.as_slice.result.now start c.captures-2.new.world c.check.new.world c.requires.ready c.captures-2.ensures.grows
    c.captures-2.ensures.sound c.check.ensures.after

pub bodies::check_body-returns-in_err-keep_limit-in-Some-clause-after : goal.bodies::check_body-returns-in_err-keep_limit-in-Some-clause-after
bodies::check_body-returns-in_err-keep_limit-in-Some-clause-after t c =
    let base = c.args.base.now in
    let locals = c.args.locals.now in
    let start = c.args.world.now in
    let second = after_all base locals c.as_slice.result.now start c.captures-2.new.world c.check.new.world c.requires.ready
    c.captures-2.ensures.grows c.captures-2.ensures.sound c.check.ensures.after in
    after_same base locals start c.check.new.world c.keep_limit.new.world second c.keep_limit.ensures.graph c.keep_limit.ensures.grows
