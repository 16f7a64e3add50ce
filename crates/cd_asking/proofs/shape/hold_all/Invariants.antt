use Rattle.std.proofs.Common.{◌≡◌, drop}
use Rattle.cd_graph.specs.Nodes.{nodes}
use Rattle.cd_asking.specs.Inner.Shapes.{members}
use Rattle.cd_asking.specs.Inner.Asked.{plain_shape}
use Rattle.cd_asking.proofs.shape.hold_all.Given as goal

-- where all that are left hold the value, all do
abbrev pub invariant-loop-id : goal.invariant-loop-id
invariant-loop-id l =
    members (nodes l.graph) (plain_shape l.shape) (drop l.id-index l.set) ≡ drop l.id-index l.set
    → members (nodes l.graph) (plain_shape l.shape) l.set ≡ l.set
