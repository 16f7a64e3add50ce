use Rattle.std.proofs.Common.{arith}
use Rattle.cd_graph.specs.Nodes.{nodes}
use Rattle.cd_elements.specs.Elements.{table}
use Rattle.cd_elements.specs.Table.{element_at}
use Rattle.cd_members.specs.Held.{pair_in}
use Rattle.cd_members.proofs.Lists.{none_of_more}
use Rattle.cd_members.proofs.pair.place_of.Goals as goal

-- the pair is not in the next one either
pub loop-place-preserved : goal.loop-place-preserved
loop-place-preserved c =
    let all = table c.args.elements.now in (
      none_of_more (pair_in (nodes c.args.graph.now) (element_at all c.args.first) (element_at all c.args.second)) c.args.left.now
          c.loop-place.place (record { 0 = 0 }, record { 0 = 0 }) (omega arith) c.loop-place.invariant.0
          (rw c.if-branch.false at c.in_ok-is_in.ensures.answer),
      c.in_ok-is_in.ensures.right,
    )
