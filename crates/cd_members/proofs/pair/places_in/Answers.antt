use Rattle.std.proofs.Common.{arith}
use Rattle.cd_graph.specs.Nodes.{nodes}
use Rattle.cd_elements.specs.Elements.{table}
use Rattle.cd_elements.specs.Table.{element_at}
use Rattle.cd_members.specs.Held.{pair_in}
use Rattle.cd_members.proofs.Lists.{more_places}
use Rattle.cd_members.proofs.pair.places_in.Goals as goal

-- so it is of one place more
pub loop-place-preserved : goal.loop-place-preserved
loop-place-preserved c =
    let all = table c.args.elements.now in
    let fact = pair_in (nodes c.args.graph.now) (element_at all c.args.first) (element_at all c.args.second) in (
      more_places fact c.args.left.now c.loop-place.places.items _ c.loop-place.place
          (record { 0 = 0 }, record { 0 = 0 }) c.in_ok-held.held
          (omega (arith, c.loop-place-test.true, c.looked_at-place-end.ensures)) c.loop-place.invariant.0 c.in_ok-held.ensures.answer c.in_ok-add_if.ensures,
      c.in_ok-held.ensures.right,
    )
