use Rattle.std.proofs.Common.{◌≡◌, drop}
use Rattle.cd_graph.specs.Nodes.{nodes}
use Rattle.cd_products.specs.Inner.Basic.{one_node_is_basic}
use Rattle.cd_products.proofs.basic.one_node_is_basic.Given as goal

-- one of those that are left is where one of all is
abbrev pub invariant-loop-id : goal.invariant-loop-id
invariant-loop-id l = one_node_is_basic (nodes l.graph) (drop l.id-index l.ids)
    ≡ one_node_is_basic (nodes l.graph) l.ids
