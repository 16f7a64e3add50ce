use Rattle.std.proofs.Common.{◌∙◌, ◌<◌, get_or, length, subst}
use Rattle.std.proofs.lemmas.Result.{err_from_is_err_and}
use Rattle.cd_sets.specs.declared.node_id.NodeId.{NodeId}
use Rattle.cd_model.specs.BuiltIns.{DATA}
use Rattle.cd_model.specs.Formula.{Graph}
use Rattle.cd_meaning.specs.Sets.{◌⊆◌, elements_of}
use Rattle.cd_empty.specs.Seen.{graph_of, table_of}
use Rattle.cd_empty.proofs.GrowingWorlds.{and_further}
use Rattle.cd_check.specs.Faults.{Reports}
use Rattle.cd_check.specs.Inner.Programs.{ResultsFault}
use Rattle.cd_check.proofs.FunctionsKept.{at_any}
use Rattle.cd_check.proofs.FunctionsPromised.{within_same}
use Rattle.cd_check.proofs.NextOne.{left_after, shown_after}
use Rattle.cd_check.proofs.ReportedOfOne.{result_reported}
use Rattle.cd_check.proofs.program.check_results.Goals as goal

pub loop-arrow-preserved : goal.loop-arrow-preserved
loop-arrow-preserved c =
    let old = graph_of c.args.world.now in
    let so_far = c.loop-arrow.invariant in
    let all = c.args.arrows.now in
    let index = c.loop-arrow.arrow-index in
    let none : NodeId = record { 0 = 0 } in (
      c.in_ok-need_at.ensures.graph ∙ so_far.0,
      so_far.1,
      left_after (λ (one : NodeId × NodeId). (one.0.0 < length old) × (one.1.0 < length old)) all index (none, none)
          c.loop-arrow-test.true so_far.2,
      shown_after (λ (one : NodeId × NodeId). elements_of old one.1 ⊆ elements_of old DATA) all index _ c.loop-arrow-test.true
          (within_same (graph_of c.loop-arrow.world) old so_far.0 _ DATA c.in_ok-need_at.ensures.within) so_far.3,
      and_further c.args.world.now c.loop-arrow.world c.need_at.new.world so_far.4 c.in_ok-need_at.ensures.grows,
    )

pub returns-in_err-need_at-clause-fault : goal.returns-in_err-need_at-clause-fault
returns-in_err-need_at-clause-fault c =
    let is = err_from_is_err_and c.from_residual.result c.from_residual.ensures.1 in
    let all = c.args.arrows.now in
    let index = c.loop-arrow.arrow-index in
    let none : NodeId × NodeId = (record { 0 = 0 }, record { 0 = 0 }) in
    let table = table_of c.need_at.new.world in
    let error = c.in_err-need_at.field-0.0 in
    rw (is.1, is.2) (subst (λ (graph : Graph). Reports table (ResultsFault graph c.args.at all) error) c.loop-arrow.invariant.0
    (result_reported all index (get_or all index none) (at_any all index none (get_or all index none) c.loop-arrow-test.true) c.loop-arrow-test.true
    table error (graph_of c.loop-arrow.world) c.args.at c.in_err-need_at.ensures.fault))

pub returns-in_err-need_at-clause-grows : goal.returns-in_err-need_at-clause-grows
returns-in_err-need_at-clause-grows c = and_further c.args.world.now c.loop-arrow.world c.need_at.new.world c.loop-arrow.invariant.4
    c.need_at.ensures.grows
