use Rattle.std.proofs.Common.{◌≡◌, drop}
use Rattle.cd_resolve.specs.Inner.Members.{joined_to, union_of}
use Rattle.cd_resolve.proofs.members.union_of.Given as goal

-- the members that were seen are put, and with what is left they are all
abbrev pub invariant-loop-id : goal.invariant-loop-id
invariant-loop-id l = (l.seen.keys ≡ l.members.items)
    × (joined_to l.members.items (drop l.id-index l.ids) ≡ union_of l.ids)
