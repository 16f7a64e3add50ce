use Rattle.std.proofs.Common.{◌∙◌}
use Rattle.cd_empty.specs.Seen.{graph_of}
use Rattle.cd_empty.proofs.GrowingWorlds.{and_further}
use Rattle.cd_apply.specs.Inner.PlainDivided.{plain_divided}
use Rattle.cd_apply.proofs.DividedArrows.{divided_further}
use Rattle.cd_apply.proofs.TakenThings.{read_at}
use Rattle.cd_apply.proofs.unsettled.divide.Goals as goal

pub loop-arrow-preserved : goal.loop-arrow-preserved
loop-arrow-preserved c =
    let arguments = c.args.arguments.now in
    let arrows = c.args.arrows.now in
    let place = c.loop-arrow.arrow-index in
    let before = plain_divided c.loop-arrow.divided in
    let after = plain_divided c.divide_by.new.divided in
    let so_far = c.loop-arrow.invariant in
    let step = c.in_ok-divide_by.ensures in record {
      divided = divided_further (graph_of c.args.world.now) arguments arrows place _
          c.loop-arrow-test.true (read_at arrows place _ c.loop-arrow-test.true) before after
          so_far.divided (graph_of c.loop-arrow.world) so_far.graph step.divided;
      graph = step.graph ∙ so_far.graph;
      grows = and_further _ _ _ so_far.grows step.grows;
    }
