use Rattle.std.proofs.Common.{◌≡◌, ◌||◌, take}
use Rattle.cd_sets.specs.declared.node_id.NodeId.{NodeId}
use Rattle.cd_sets.specs.IdSet.{holds}
use Rattle.cd_sets.proofs.id_set.IdSet.union.Given as goal

-- so far the set holds what the first holds, and what was passed of the second
abbrev pub invariant-loop-id : goal.invariant-loop-id
invariant-loop-id l = (one : NodeId) → holds l.all one ≡ (holds l.self one || holds (take l.id-index l.id-items) one)
