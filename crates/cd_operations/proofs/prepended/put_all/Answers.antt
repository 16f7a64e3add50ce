use Rattle.cd_operations.proofs.Prepending.{puts_on}
use Rattle.cd_operations.proofs.prepended.put_all.Goals as goal

pub loop-top-preserved : goal.loop-top-preserved
loop-top-preserved c =
    puts_on _ _ _ _ _ _ _ _ c.in-Some.ensures.items c.loop-top.invariant _ _ c.in_ok-made.ensures.grows c.in_ok-made.ensures.is
