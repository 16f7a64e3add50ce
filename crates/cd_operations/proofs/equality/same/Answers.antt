use Rattle.cd_operations.proofs.PairsCompared.{falls}
use Rattle.cd_operations.proofs.equality.same.Goals as goal

pub loop-one-smaller : goal.loop-one-smaller
loop-one-smaller c = falls _ _ _ _ _ _ _ c.in-Some.ensures.items c.loop-one.invariant _ c.in_ok-same_parts-2.ensures
