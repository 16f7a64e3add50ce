use Rattle.std.proofs.Common.{map, sym, ap, ◌∙◌}
use Rattle.std.specs.List.{list_all}
use Rattle.std.specs.Option.{is_some}
use Rattle.std.proofs.lemmas.Result.{IfOk-weaker}
use Rattle.cd_graph.specs.Nodes.{nodes}
use Rattle.cd_graph.specs.PlainFormula.{plain}
use Rattle.cd_matching.specs.PlainKernel.{plain_node, plain_nodes}
use Rattle.cd_filter.specs.Inner.Forming.{row_formula}
use Rattle.cd_filter.proofs.Forming.{batch_is}
use Rattle.cd_filter.proofs.RowsOf.{length_map}
use Rattle.cd_filter.proofs.batch.batch_of.Goals as goal

-- the formulas of full rows
pub returns : goal.returns
returns c =
    let items = c.args.kernel.now.nodes.items in
    let rows = c.in_ok-rows.rows.items in
    IfOk-weaker c.formulas.result _ _
    (λ batch is. batch_is (nodes c.args.graph.now) (plain_nodes items) c.args.first rows
    c.in_ok-rows.ensures.formed
    (sym (ap (list_all is_some) c.as_slice.ensures.value) ∙ sym c.if-not-are_full.ensures)
    (c.in_ok-rows.ensures.count ∙ sym (length_map plain_node items)) (map plain batch.items)
    (is ∙ ap (map row_formula) c.as_slice-2.ensures.value))
    c.formulas.ensures
