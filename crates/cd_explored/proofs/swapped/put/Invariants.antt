use Rattle.std.proofs.Common.{◌≡◌, take, map}
use Rattle.cd_sets.specs.declared.node_id.NodeId.{NodeId}
use Rattle.cd_sets.specs.IdSet.{holds}
use Rattle.cd_explored.specs.Inner.Choices.{in_place}
use Rattle.cd_explored.proofs.swapped.put.Given as goal

-- so far the set holds those that were passed, each as it is put
abbrev pub invariant-loop-one : goal.invariant-loop-one
invariant-loop-one l = (number : NodeId)
    → holds l.set number ≡ holds (map (in_place l.own l.id) (take l.one-index l.ids)) number
