use Rattle.std.proofs.Common.{◌≡◌, length}
use Rattle.cd_tasks.specs.Inner.AfterWords.{next_later}
use Rattle.cd_tasks.proofs.odometer.Odometer.later.Given as goal

-- the sides that were taken off are last ones
abbrev pub invariant-loop-side : goal.invariant-loop-side
invariant-loop-side l = next_later l.self.last l.word.items ≡ next_later l.self.last l.self.word.items

abbrev pub decreases-loop-side : goal.decreases-loop-side
decreases-loop-side l = length l.word.items
