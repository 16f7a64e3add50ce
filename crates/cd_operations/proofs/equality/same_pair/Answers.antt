use Rattle.std.proofs.Common.{arith}
use Rattle.cd_operations.proofs.PairsCompared.{adds_two}
use Rattle.cd_operations.proofs.equality.same_pair.Goals as goal

pub returns : goal.returns
returns c =
    let below = c.in-Pair.ensures.below in
    adds_two _ _ _ _ _ _ _ _ _ c.in-Pair.ensures.thing c.requires.first c.requires.second
    (omega (arith, below.0, c.requires.other)) (omega (arith, below.1, c.requires.other))
    c.requires.pairs c.in_ok-push.ensures.items c.in_ok-push-2.ensures.items
