use Rattle.std.proofs.Common.{List, drop, length}
use Rattle.cd_sets.specs.declared.node_id.NodeId.{NodeId}
use Rattle.cd_graph.specs.Nodes.{nodes}
use Rattle.cd_asking.specs.Inner.Tasks.{Covers, Includes, HoldsBelow}
use Rattle.cd_asking.specs.Inner.Asked.{child_by}
use Rattle.cd_asking.proofs.led.led_from.Given as goal

-- a set with these and with those of the nodes that are left has all, and these are of the graph
abbrev pub invariant-loop-id : goal.invariant-loop-id
invariant-loop-id l = ((final : List NodeId) → Includes l.next final
    → Covers (nodes l.graph) (child_by l.label l.child) (drop l.id-index l.set) final
    → Covers (nodes l.graph) (child_by l.label l.child) l.set final)
    × HoldsBelow (length (nodes l.graph)) l.next
