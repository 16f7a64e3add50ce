use Rattle.cd_operations.proofs.Joining.{joining_starts, joins_on}
use Rattle.cd_operations.proofs.joins.joined.Goals as goal

pub loop-first-init : goal.loop-first-init
loop-first-init c = joining_starts _ _ _ _ c.requires c.in_ok-made.ensures.grows c.in_ok-made.ensures.is

pub loop-first-preserved : goal.loop-first-preserved
loop-first-preserved c =
    joins_on _ _ _ _ _ _ _ c.in_ok-next.ensures.grows c.loop-first.invariant c.in-Some.ensures _ _ c.in-Some-2.is c.in_ok-next.ensures.is
