use Rattle.std.proofs.Common.{◌∙◌}
use Rattle.cd_empty.specs.Seen.{graph_of}
use Rattle.cd_empty.proofs.GrowingWorlds.{and_further}
use Rattle.cd_closures.proofs.Adding.{entries_further}
use Rattle.cd_closures.proofs.entries.add_entries.Goals as goal

pub loop-one-preserved : goal.loop-one-preserved
loop-one-preserved c =
    let before = c.loop-one.invariant in
    let made = c.in_ok-add_entry.ensures in record {
      added = entries_further (graph_of c.args.world.now) c.args.whole c.args.function (graph_of c.loop-one.world) before.graph c.args.asked.now
          c.loop-one.one-index c.loop-one-test.true _ c.args.maps.now c.loop-one.maps c.add_entry.new.maps before.added made.decided;
      graph = made.graph ∙ before.graph;
      grows = and_further c.args.world.now c.loop-one.world c.add_entry.new.world before.grows made.grows;
    }
