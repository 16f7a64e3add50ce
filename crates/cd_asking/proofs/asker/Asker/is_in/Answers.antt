use Rattle.std.proofs.Common.{subst, sym, Bool}
use Rattle.std.proofs.lemmas.Result.{IfOk-weaker}
use Rattle.cd_graph.specs.Nodes.{nodes}
use Rattle.cd_cells.specs.Cells.{thing_at}
use Rattle.cd_cells.specs.Table.{table}
use Rattle.cd_model.specs.Formula as formula
use Rattle.cd_model.specs.Interfaces.{admits, value_in_node}
use Rattle.cd_model.specs.Types.{closure_maps}
use Rattle.cd_asking.specs.MappedArrows.{maps_at}
use Rattle.cd_asking.proofs.InNode.{value_answers_as_tested}
use Rattle.cd_asking.proofs.Members.{at_index}
use Rattle.cd_asking.proofs.asker.Asker.is_in.Goals as goal

pub returns-clause-answer : goal.returns-clause-answer
returns-clause-answer c =
    let graph = nodes c.args.graph.now in
    let is = thing_at (table c.args.values.now) c.args.id.0 in
    IfOk-weaker c.holds.result _ _ (λ answer same interfaces right.
    subst (λ (answer : Bool). value_in_node graph interfaces is c.args.node answer) (sym same)
    (value_answers_as_tested graph (maps_at c.args.maps.now) (closure_maps (formula.nodes graph) (admits interfaces)) is c.args.node
    (at_index _ (table c.args.values.now) c.args.id.0 _ c.knows.ensures.sound c.requires.value) right))
    c.holds.ensures.answer
