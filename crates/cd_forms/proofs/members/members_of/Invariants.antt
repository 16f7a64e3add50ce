use Rattle.std.proofs.Common.{◌≡◌, ◌||◌, drop}
use Rattle.cd_sets.specs.IdSet.{holds}
use Rattle.cd_sets.specs.declared.node_id.NodeId.{NodeId}
use Rattle.cd_forms.specs.Inner.Members.{is_member}
use Rattle.cd_forms.proofs.members.members_of.Given as goal

-- the members so far, and those of the parts that are left, are all
abbrev pub invariant-loop-part : goal.invariant-loop-part
invariant-loop-part l = (id : NodeId)
    → (holds l.members id || is_member (drop l.part-index l.parts) id) ≡ is_member l.parts id
