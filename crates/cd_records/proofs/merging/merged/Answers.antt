use Rattle.std.proofs.Common.{List, map, ap, subst, ◌∙◌}
use Rattle.std.proofs.lemmas.Result.{IfOk-weaker}
use Rattle.cd_sets.specs.declared.node_id.NodeId.{NodeId}
use Rattle.cd_model.specs.Formula.{Graph}
use Rattle.cd_needs.specs.RecordTypes.{plain_row}
use Rattle.cd_rules.specs.Rows.{Row}
use Rattle.cd_empty.specs.Seen.{graph_of}
use Rattle.cd_records.specs.Inner.Rests.{IsMergedNode}
use Rattle.cd_records.specs.Inner.Rows.{AreRowsOf}
use Rattle.cd_records.proofs.merging.merged.Goals.{After-merged_node}
use Rattle.cd_records.proofs.merging.merged.Goals as goal

abbrev first_in : After-merged_node → List Row
first_in c = map plain_row c.in_ok-one.one.items

abbrev second_in : After-merged_node → List Row
second_in c = map plain_row c.in_ok-other.other.items

-- the rows of the second node, and the node by the rows of both
second_are : (c : After-merged_node)
    → AreRowsOf (graph_of c.args.world.now) c.args.second (second_in c)
second_are c = subst (λ (g : Graph). AreRowsOf g c.args.second (second_in c))
    c.in_ok-one.ensures.graph c.in_ok-other.ensures.rows

node_in : (c : After-merged_node) (id : NodeId)
    → IsMergedNode (graph_of c.rows_of-2.new.world) (graph_of c.merged_node.new.world)
    (map plain_row c.as_slice.result.now) (map plain_row c.as_slice-2.result.now) id
    → IsMergedNode (graph_of c.args.world.now) (graph_of c.merged_node.new.world) (first_in c)
    (second_in c) id
node_in c id node =
    let new = graph_of c.merged_node.new.world in
    subst (λ (g : Graph). IsMergedNode g new (first_in c) (second_in c) id)
    (c.in_ok-other.ensures.graph ∙ c.in_ok-one.ensures.graph)
    (subst (λ (rows : List Row). IsMergedNode (graph_of c.rows_of-2.new.world) new (first_in c)
    rows id) (ap (map plain_row) c.as_slice-2.ensures.value)
    (subst (λ (rows : List Row). IsMergedNode (graph_of c.rows_of-2.new.world) new rows
    (map plain_row c.as_slice-2.result.now) id) (ap (map plain_row) c.as_slice.ensures.value)
    node))

pub returns-clause-has : goal.returns-clause-has
returns-clause-has c =
    let end = (goal.at.returns-clause-has c).After-merged_node in
    IfOk-weaker c.merged_node.result _ _
    (λ id node. (node_in end id node).has c.args.first c.args.second c.in_ok-one.ensures.rows
    (second_are end))
    c.merged_node.ensures.holding

pub returns-clause-only : goal.returns-clause-only
returns-clause-only c =
    let end = (goal.at.returns-clause-only c).After-merged_node in
    IfOk-weaker c.merged_node.result _ _
    (λ id node. (node_in end id node).only c.args.first c.args.second c.in_ok-one.ensures.rows
    (second_are end))
    c.merged_node.ensures.holding
