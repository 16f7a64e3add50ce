use Rattle.std.proofs.Common.{◌≡◌, take}
use Rattle.cd_sets.specs.declared.node_id.NodeId.{NodeId}
use Rattle.cd_sets.specs.IdSet.{holds}
use Rattle.cd_needs.proofs.asking.set_of.Given as goal

-- so far the set holds what was passed
abbrev pub invariant-loop-id : goal.invariant-loop-id
invariant-loop-id l = (one : NodeId) → holds l.set one ≡ holds (take l.id-index l.ids) one
