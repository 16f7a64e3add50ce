use Rattle.std.proofs.Common.{◌≡◌, ◌++◌, length}
use Rattle.cd_names.specs.Inner.TwoByTwo.{two_by_two}
use Rattle.cd_names.proofs.arrows.pairs.Given as goal

abbrev pub invariant-loop-left : goal.invariant-loop-left
invariant-loop-left l = l.all.items ++ two_by_two l.left ≡ two_by_two l.ids

abbrev pub decreases-loop-left : goal.decreases-loop-left
decreases-loop-left l = length l.left
