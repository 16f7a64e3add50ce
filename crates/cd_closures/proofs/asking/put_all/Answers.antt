use Rattle.cd_empty.proofs.GrowingWorlds.{and_further}
use Rattle.cd_empty.specs.Seen.{graph_of}
use Rattle.cd_closures.proofs.NodesPut.{still_asked, arrows_below, one_more_arrow, one_more_asked}
use Rattle.cd_closures.proofs.asking.put_all.Goals as goal

pub loop-arrow-preserved : goal.loop-arrow-preserved
loop-arrow-preserved c =
    let before = c.loop-arrow.invariant in
    let made = c.in_ok-put_one.ensures in
    let one = c.in_ok-put_one.field-0 in record {
      arrows = one_more_arrow c.args.arrows.now c.loop-arrow.arrow-index c.loop-arrow-test.true one _ made.arrow c.loop-arrow.all.items c.push.new.self.items
          c.in_ok-push.ensures.items before.arrows;
      asked = one_more_asked (graph_of c.put_one.new.world) one made.asked c.loop-arrow.all.items c.push.new.self.items c.in_ok-push.ensures.items
          (still_asked c.loop-arrow.world c.put_one.new.world made.grows c.loop-arrow.all.items before.asked);
      below = arrows_below c.loop-arrow.world c.put_one.new.world made.grows c.args.arrows.now before.below;
      sound = made.sound;
      grows = and_further c.args.world.now c.loop-arrow.world c.put_one.new.world before.grows made.grows;
    }
