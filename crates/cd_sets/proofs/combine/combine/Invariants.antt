use Rattle.std.proofs.Common.{◌≡◌, ℤ, ◌≤ℤ◌, ◌<ℤ◌}
use Rattle.cd_sets.specs.Interval.{holds}
use Rattle.cd_sets.specs.Inner.Combine.{keeps_of, IsAhead, swept, IsSwept, come_to}
use Rattle.cd_sets.proofs.Sweep.{count_from}
use Rattle.cd_sets.proofs.combine.combine.Given as goal

-- below the number that it has come to the sweep has kept what it is to keep, and from there on what is left of each side stands for it
abbrev pub invariant-loop-next : goal.invariant-loop-next
invariant-loop-next l =
    IsSwept l.kept.items l.since (come_to l.next)
    × IsAhead (come_to l.next) l.left
    × IsAhead (come_to l.next) l.right
    × ((z : ℤ) → come_to l.next ≤ℤ z → holds l.left z ≡ holds l.fn.left z)
    × ((z : ℤ) → come_to l.next ≤ℤ z → holds l.right z ≡ holds l.fn.right z)
    × ((z : ℤ) → z <ℤ come_to l.next → swept l.kept.items l.since z ≡ keeps_of l.operation (holds l.fn.left z) (holds l.fn.right z))

abbrev pub decreases-loop-next : goal.decreases-loop-next
decreases-loop-next l = count_from (come_to l.next)
