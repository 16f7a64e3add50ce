use Rattle.std.proofs.Common.{◌≡◌, ◌++◌, drop}
use Rattle.cd_filter.specs.Inner.Forming.{others, joined}
use Rattle.cd_filter.proofs.members.joined.Given as goal

-- the numbers so far and the others of those that are left are all
abbrev pub invariant-loop-number : goal.invariant-loop-number
invariant-loop-number l =
    (l.all.items ++ others l.one (drop l.number-index l.other)) ≡ joined l.one l.other
