use Rattle.std.proofs.Common.{length}
use Rattle.cd_normal.proofs.holding.+in_one.Given as goal

-- each half is shorter
abbrev pub decreases-in_one : goal.decreases-in_one
decreases-in_one l = length l.sets.now
