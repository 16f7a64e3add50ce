use Rattle.std.proofs.Common.{◌≡◌, ◌++◌, take, map}
use Rattle.cd_sets.specs.declared.node_id.NodeId.{NodeId}
use Rattle.cd_sets.specs.IdSet.{holds}
use Rattle.cd_parts.proofs.sets_of.with_attributes.Given as goal

-- so far the set holds what it held and the parts that were passed
abbrev pub invariant-loop-parts : goal.invariant-loop-parts
invariant-loop-parts l = (one : NodeId)
    → holds l.all one ≡ holds (l.fn.set ++ map (λ (parts : NodeId × NodeId × NodeId). parts.1) (take l.parts-index l.triples)) one
