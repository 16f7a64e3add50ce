use Rattle.std.proofs.Common.{◌≡◌, take, map}
use Rattle.cd_sets.specs.declared.node_id.NodeId.{NodeId}
use Rattle.cd_sets.specs.IdSet.{holds}
use Rattle.cd_parts.proofs.sets_of.firsts.Given as goal

-- so far the set holds the parts that were passed
abbrev pub invariant-loop-parts : goal.invariant-loop-parts
invariant-loop-parts l = (one : NodeId) → holds l.set one ≡ holds (map (λ (parts : NodeId × NodeId). parts.0) (take l.parts-index l.pairs)) one
