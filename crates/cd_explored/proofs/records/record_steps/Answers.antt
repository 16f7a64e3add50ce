use Rattle.std.proofs.Common.{◌∙◌, sym, subst, ap, map}
use Rattle.std.proofs.lemmas.Result.{IfOk-weaker}
use Rattle.cd_matching.specs.Kernel.{Record}
use Rattle.cd_matching.specs.PlainKernel.{plain_nodes, plain_kernel_field}
use Rattle.cd_needs.specs.RecordTypes.{plain_row}
use Rattle.cd_empty.specs.Seen.{graph_of}
use Rattle.cd_filter.specs.Table.{row_steps}
use Rattle.cd_explored.specs.Inner.FieldRows.{asked_fields}
use Rattle.cd_explored.specs.Inner.NodeSteps.{AreNodeSteps}
use Rattle.cd_explored.proofs.FieldSteps.{steps_of_rows}
use Rattle.cd_explored.proofs.records.record_steps.Goals as goal

pub returns-clause-steps : goal.returns-clause-steps
returns-clause-steps c =
    let graph = graph_of c.args.world.now in
    let nodes = plain_nodes c.args.base.now.kernel.now.nodes.items in
    let named = map plain_kernel_field c.args.fields.now in
    let rows = c.in_ok-rows.rows.items in
    IfOk-weaker c.lead_to_fields.result _ _
    (λ leads same. subst
    (AreNodeSteps graph nodes c.args.base.now.first c.args.question.now (Record named c.args.more))
    (sym (same ∙ ap (λ rows. row_steps named (map (asked_fields named) (map plain_row rows)))
    c.as_slice.ensures.value))
    (steps_of_rows graph nodes c.args.base.now.first c.args.question.now named c.args.more
    (map plain_row rows) c.requires.rising c.requires.parts c.in_ok-rows.ensures.rows
    c.in_ok-rows.ensures.values c.in_ok-rows.ensures.asks))
    c.lead_to_fields.ensures
