use Rattle.std.proofs.Common.{List, [], ◌∷◌, sym, subst}
use Rattle.cd_sets.specs.declared.node_id.NodeId.{NodeId}
use Rattle.cd_graph.specs.Nodes.{nodes}
use Rattle.cd_program.specs.PlainExpr.{plain_function}
use Rattle.cd_resolve.specs.Named.{declared_by}
use Rattle.cd_evaluation.specs.ProgramInterfaces.{interface_of}
use Rattle.cd_meet.specs.Meets.{AreNodes, IsMeet}
use Rattle.cd_resolved.proofs.GraphsGrow.{arrows_grown}
use Rattle.cd_resolved.proofs.InterfacesSound.{written_are_nodes}
use Rattle.cd_resolved.proofs.interfaces.interface_of.Goals as goal

pub put_meet-requires : goal.put_meet-requires
put_meet-requires c =
    subst (λ (arrows : List (NodeId × NodeId)). AreNodes (nodes c.arrows_of.new.graph) arrows) (sym c.as_slice.ensures.value)
    (written_are_nodes (declared_by c.args.names.now ∷ []) (nodes c.arrows_of.new.graph)
    (interface_of (plain_function c.args.function.now)) c.in_ok-arrows.arrows.items c.in_ok-arrows.ensures.arrows)

pub returns-clause-nodes : goal.returns-clause-nodes
returns-clause-nodes c = record {
  arrows_stand = arrows_grown (declared_by c.args.names.now ∷ []) (nodes c.arrows_of.new.graph) (nodes c.put_meet.new.graph)
      c.in_ok-arrows.ensures.sound c.in_ok-whole.ensures.grows (interface_of (plain_function c.args.function.now))
      c.in_ok-arrows.arrows.items c.in_ok-arrows.ensures.arrows;
  is_meet = subst (λ (arrows : List (NodeId × NodeId)). IsMeet (nodes c.put_meet.new.graph) arrows c.in_ok-whole.whole)
      c.as_slice.ensures.value c.in_ok-whole.ensures.meet;
}
