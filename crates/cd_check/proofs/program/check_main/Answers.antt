use Rattle.std.proofs.Common.{◌∙◌, ℕ, List, ap, sym, subst}
use Rattle.std.proofs.lemmas.Result.{err_from_is_err_and}
use Rattle.cd_sets.specs.declared.node_id.NodeId.{NodeId}
use Rattle.cd_model.specs.Formula.{Graph}
use Rattle.cd_program.specs.declared.expr.ExprKind.TheViews.{out-FunctionTree}
use Rattle.cd_resolved.specs.Resolved.{function_of}
use Rattle.cd_empty.specs.Seen.{graph_of, table_of}
use Rattle.cd_empty.proofs.GrowingWorlds.{and_further}
use Rattle.cd_check.specs.Faults.{Reports}
use Rattle.cd_check.specs.Inner.FunctionNames.{begins_at}
use Rattle.cd_check.specs.Inner.Programs.{ResultsFault}
use Rattle.cd_check.proofs.FunctionsPromised.{arrows_of}
use Rattle.cd_check.proofs.ProgramViews.{function_is}
use Rattle.cd_check.proofs.ReportedOfOne.{main_reported}
use Rattle.cd_check.proofs.program.check_main.Goals as goal

pub returns-in_err-check_results-clause-fault : goal.returns-in_err-check_results-clause-fault
returns-in_err-check_results-clause-fault c =
    let is = err_from_is_err_and c.from_residual.result c.from_residual.ensures.1 in
    let one = c.one-item.result in
    let at = (out-FunctionTree one.function.now).at in
    let old = graph_of c.args.world.now in
    let table = table_of c.check_results.new.world in
    let error = c.in_err-check_results.field-0.0 in
    rw (is.1, is.2) (main_reported c.args.functions.now c.loop-one.one-index one c.one-item.is c.loop-one-test.true table error old function_of arrows_of
    (sym c.is_main.ensures ∙ c.if-is_main.true)
    (subst (λ (here : ℕ). Reports table (ResultsFault old here (arrows_of one)) error) (sym (ap begins_at (function_is one.function.now)))
    (subst (λ (arrows : List (NodeId × NodeId)). Reports table (ResultsFault old at arrows) error) c.as_slice.ensures.value
    (subst (λ (graph : Graph). Reports table (ResultsFault graph at c.as_slice.result.now) error) c.loop-one.invariant.0
    c.in_err-check_results.ensures.fault))))

pub returns-in_err-check_results-clause-grows : goal.returns-in_err-check_results-clause-grows
returns-in_err-check_results-clause-grows c = and_further c.args.world.now c.loop-one.world c.check_results.new.world c.loop-one.invariant.3
    c.check_results.ensures.grows
