use Rattle.std.proofs.Common.{◌≡◌, [], drop}
use Rattle.cd_graph.specs.Nodes.{nodes}
use Rattle.cd_closures.specs.Inner.Collected.{with_nodes}
use Rattle.cd_closures.proofs.collecting.arrows_of.Given as goal

-- these and those of the nodes that are left are all
abbrev pub invariant-loop-place : goal.invariant-loop-place
invariant-loop-place l = with_nodes l.arrows (drop l.place (nodes l.graph)) ≡ with_nodes [] (nodes l.graph)
