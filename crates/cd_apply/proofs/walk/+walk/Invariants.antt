use Rattle.std.proofs.Common.{◌+◌, ◌*◌, length}
use Rattle.cd_apply.proofs.walk.+walk.Given as goal

-- the arrows that are left
abbrev pub decreases-walk : goal.decreases-walk
decreases-walk l = 2 * length l.arrows.now

abbrev pub decreases-walk_beyond : goal.decreases-walk_beyond
decreases-walk_beyond l = 2 * length l.rest.now + 1

abbrev pub decreases-walk_inside : goal.decreases-walk_inside
decreases-walk_inside l = 2 * length l.rest.now + 1
