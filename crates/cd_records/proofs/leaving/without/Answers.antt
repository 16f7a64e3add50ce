use Rattle.std.proofs.Common.{List, map, ap, subst}
use Rattle.std.proofs.lemmas.Result.{IfOk-weaker}
use Rattle.cd_sets.specs.declared.node_id.NodeId.{NodeId}
use Rattle.cd_model.specs.Formula.{Graph}
use Rattle.cd_needs.specs.RecordTypes.{plain_row}
use Rattle.cd_rules.specs.Rows.{Row}
use Rattle.cd_empty.specs.Seen.{graph_of}
use Rattle.cd_records.specs.Inner.Rests.{IsRestNode}
use Rattle.cd_records.proofs.leaving.without.Goals.{After-rest_node}
use Rattle.cd_records.proofs.leaving.without.Goals as goal

-- the node by the rows
node_in : (c : After-rest_node) (id : NodeId)
    → IsRestNode (graph_of c.rows_of.new.world) (graph_of c.rest_node.new.world)
    c.args.label.now (map plain_row c.as_slice.result.now) id
    → IsRestNode (graph_of c.args.world.now) (graph_of c.rest_node.new.world) c.args.label.now
    (map plain_row c.in_ok-rows.rows.items) id
node_in c id node =
    let new = graph_of c.rest_node.new.world in
    subst (λ (g : Graph). IsRestNode g new c.args.label.now
    (map plain_row c.in_ok-rows.rows.items) id) c.in_ok-rows.ensures.graph
    (subst (λ (rows : List Row). IsRestNode (graph_of c.rows_of.new.world) new c.args.label.now
    rows id) (ap (map plain_row) c.as_slice.ensures.value) node)

pub returns-clause-has : goal.returns-clause-has
returns-clause-has c =
    let end = (goal.at.returns-clause-has c).After-rest_node in
    IfOk-weaker c.rest_node.result _ _
    (λ id node. (node_in end id node).has c.args.records c.in_ok-rows.ensures.rows)
    c.rest_node.ensures.holding

pub returns-clause-only : goal.returns-clause-only
returns-clause-only c =
    let end = (goal.at.returns-clause-only c).After-rest_node in
    IfOk-weaker c.rest_node.result _ _
    (λ id node. (node_in end id node).only c.args.records c.in_ok-rows.ensures.rows)
    c.rest_node.ensures.holding
