use Rattle.std.proofs.Common.{◌≡◌, drop}
use Rattle.cd_resolve.specs.Inner.Members.{met_with, meet_of}
use Rattle.cd_resolve.proofs.members.meet_of.Given as goal

-- the members that were seen are put, and with what is left they are all
abbrev pub invariant-loop-sign : goal.invariant-loop-sign
invariant-loop-sign l = (l.seen.keys ≡ l.members.items)
    × (met_with l.members.items (drop l.sign-index l.signs) ≡ meet_of l.signs)
