use Rattle.std.proofs.Common.{[]}
use Rattle.cd_empty.specs.Seen.{graph_of}
use Rattle.cd_resolved.specs.Resolved.{function_of}
use Rattle.cd_resolved.specs.declared.function_nodes.FunctionNodes.{FunctionNodes}
use Rattle.cd_check.specs.Inner.Giving.{PromiseKept}
use Rattle.cd_check.specs.Inner.Programs.{IsSoundFunction}
use Rattle.cd_check.specs.Inner.Promises.{IsPromised}
use Rattle.cd_check.specs.Inner.Ready.{scope_of, program_of, names_seen, seen_by}
use Rattle.cd_check.proofs.After.{after_both}
use Rattle.cd_check.proofs.FunctionsPromised.{promise_kept_earlier, promise_later}
use Rattle.cd_check.proofs.NextOne.{one_left, one_shown}
use Rattle.std.proofs.lemmas.Result.{err_from_is_err_and}
use Rattle.cd_empty.specs.Seen.{table_of}
use Rattle.cd_check.proofs.ReportedOfOne.{function_reported}
use Rattle.cd_check.proofs.program.check_functions.Goals as goal

pub check_promise-requires-clause-promise : goal.check_promise-requires-clause-promise
check_promise-requires-clause-promise c =
    let base = c.args.base.now in
    let old = graph_of c.args.world.now in
    let so_far = c.loop-one.invariant in
    promise_later (scope_of base) old (graph_of c.loop-one.world) so_far.0.later c.requires.ready.sound c.one-item.result
    (one_left (IsPromised (scope_of base) old) c.args.functions.now c.loop-one.one-index c.one-item.result c.one-item.is
    c.loop-one-test.true so_far.1).0

pub loop-one-preserved : goal.loop-one-preserved
loop-one-preserved c =
    let base = c.args.base.now in
    let old = graph_of c.args.world.now in
    let now = graph_of c.loop-one.world in
    let so_far = c.loop-one.invariant in
    let all = c.args.functions.now in
    let index = c.loop-one.one-index in
    let one = c.one-item.result in
    let promised = one_left (IsPromised (scope_of base) old) all index one c.one-item.is c.loop-one-test.true so_far.1 in (
      after_both base [] c.args.world.now c.loop-one.world c.check_promise.new.world so_far.0 c.in_ok-check_promise.ensures.after,
      promised.1,
      (one_left (IsSoundFunction (program_of base) (names_seen base [])) all index one c.one-item.is c.loop-one-test.true so_far.2).1,
      one_shown (λ (one : FunctionNodes). PromiseKept base old [] (function_of one) one) all index one c.one-item.is c.loop-one-test.true
          (promise_kept_earlier (scope_of base) old now so_far.0.later c.requires.ready.sound (seen_by base []) c.requires.ready.nodes one
          promised.0 c.in_ok-check_promise.ensures.kept) so_far.3,
    )

pub returns-in_err-check_promise-clause-fault : goal.returns-in_err-check_promise-clause-fault
returns-in_err-check_promise-clause-fault c =
    let is = err_from_is_err_and c.from_residual.result c.from_residual.ensures.1 in
    let base = c.args.base.now in
    rw (is.1, is.2) (function_reported c.args.functions.now c.loop-one.one-index c.one-item.result c.one-item.is c.loop-one-test.true
    (table_of c.check_promise.new.world) c.in_err-check_promise.field-0.0 (scope_of base) (graph_of c.args.world.now) (graph_of c.loop-one.world)
    c.loop-one.invariant.0.later c.requires.ready.sound (seen_by base []) c.requires.ready.nodes function_of c.in_err-check_promise.ensures.fault)

pub returns-in_err-check_promise-clause-after : goal.returns-in_err-check_promise-clause-after
returns-in_err-check_promise-clause-after c = after_both c.args.base.now [] c.args.world.now c.loop-one.world c.check_promise.new.world
    c.loop-one.invariant.0 c.check_promise.ensures.after
