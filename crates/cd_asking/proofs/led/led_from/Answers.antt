use Rattle.std.proofs.Common.{drop_of_length-le, length, sym, subst, refl, List}
use Rattle.cd_sets.specs.declared.node_id.NodeId.{NodeId}
use Rattle.cd_graph.specs.Nodes.{nodes}
use Rattle.cd_asking.specs.Inner.Tasks.{Covers}
use Rattle.cd_asking.specs.Inner.Asked.{child_by}
use Rattle.cd_asking.proofs.Leading.{next_node, each_held}
use Rattle.cd_asking.proofs.led.led_from.Goals as goal

pub loop-id-preserved : goal.loop-id-preserved
loop-id-preserved c = (
  λ final more rest. c.loop-id.invariant.0 final (λ id there. more id (c.add_led_from.ensures.grows id there))
      (next_node (child_by c.args.label.now c.args.child) (nodes c.args.graph.now) c.add_led_from.new.next final c.args.set.now
      c.loop-id.id-index _ _ refl c.loop-id-test.true more c.in_ok-add_led_from.ensures.added rest),
  c.add_led_from.ensures.below c.loop-id.invariant.1,
)

-- no node is left
pub returns-clause-covers : goal.returns-clause-covers
returns-clause-covers c = c.loop-id.invariant.0 c.loop-id.next (λ id there. there)
    (subst (λ (left : List NodeId). Covers (nodes c.args.graph.now) (child_by c.args.label.now c.args.child) left c.loop-id.next)
    (sym (drop_of_length-le c.args.set.now c.loop-id-test.false)) tt)

pub returns-clause-below : goal.returns-clause-below
returns-clause-below c = each_held (length (nodes c.args.graph.now)) c.loop-id.next c.loop-id.invariant.1
