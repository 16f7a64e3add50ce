use Rattle.std.proofs.Common.{length}
use Rattle.cd_normal.proofs.holding.+in_each.Given as goal

-- each half is shorter
abbrev pub decreases-in_each : goal.decreases-in_each
decreases-in_each l = length l.sets.now
