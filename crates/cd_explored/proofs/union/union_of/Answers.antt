use Rattle.cd_explored.specs.Inner.Plan.{plain_plan}
use Rattle.cd_explored.proofs.GrowingWants.{grow_then}
use Rattle.cd_explored.proofs.UnionsMade.{members_more}
use Rattle.cd_explored.proofs.union.union_of.Goals as goal

pub loop-giver-preserved : goal.loop-giver-preserved
loop-giver-preserved c =
    let old = c.loop-giver.wants in
    let new = c.member.new.wants in
    let made = c.in_ok-member.ensures in
    record {
      members = members_more (plain_plan c.args.plan.now) old new made.grow c.args.variable c.args.givers.now
          c.loop-giver.giver-index c.giver-item.result c.loop-giver-test.true c.giver-item.is
          c.loop-giver.members.items c.push.new.self.items c.in_ok-member.field-0 c.in_ok-push.ensures.items
          c.loop-giver.invariant.members made.made;
      grow = grow_then c.args.wants.now old new c.loop-giver.invariant.grow made.grow;
    }
