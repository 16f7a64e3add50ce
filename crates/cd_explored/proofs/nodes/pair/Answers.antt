use Rattle.cd_explored.specs.Inner.Plan.{plain_plan}
use Rattle.cd_explored.proofs.GrowingWants.{node_stays}
use Rattle.cd_explored.proofs.nodes.pair.Goals as goal

-- the first node stays that of its want
pub returns-clause-made : goal.returns-clause-made
returns-clause-made c = (
  c.in_ok-first.first,
  c.in_ok-second.second,
  node_stays (plain_plan c.args.plan.now) c.node_of.new.wants c.node_of-2.new.wants c.in_ok-second.ensures.grow
      c.in_ok-first.first c.args.one c.in_ok-first.ensures.made,
  c.in_ok-second.ensures.made,
  c.pair.ensures,
)
