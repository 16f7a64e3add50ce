use Rattle.std.proofs.Common.{◌≡◌, ◌++◌, drop}
use Rattle.cd_graph.specs.Nodes.{nodes}
use Rattle.cd_asking.specs.Inner.Shapes.{members}
use Rattle.cd_asking.specs.Inner.Asked.{plain_shape}
use Rattle.cd_asking.proofs.shape.members_of.Given as goal

-- those so far, and those of the nodes that are left
abbrev pub invariant-loop-id : goal.invariant-loop-id
invariant-loop-id l =
    l.ids.items ++ members (nodes l.graph) (plain_shape l.shape) (drop l.id-index l.set)
    ≡ members (nodes l.graph) (plain_shape l.shape) l.set
