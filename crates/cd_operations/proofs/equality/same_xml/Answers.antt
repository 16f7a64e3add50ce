use Rattle.std.proofs.Common.{arith}
use Rattle.cd_operations.proofs.PairsCompared.{adds_three}
use Rattle.cd_operations.proofs.equality.same_xml.Goals as goal

pub returns : goal.returns
returns c =
    let below = c.in-Xml.ensures.below in
    adds_three _ _ _ _ _ _ _ _ _ _ _ _ c.in-Xml.ensures.thing c.requires.tag c.requires.attributes c.requires.content
    (omega (arith, below.0, c.requires.other)) (omega (arith, below.1, c.requires.other)) (omega (arith, below.2, c.requires.other))
    c.requires.pairs c.in_ok-push.ensures.items c.in_ok-push-2.ensures.items c.in_ok-push-3.ensures.items
