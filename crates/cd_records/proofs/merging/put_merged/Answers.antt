use Rattle.std.proofs.Common.{List, map, subst, sym}
use Rattle.cd_sets.specs.declared.node_id.NodeId.{NodeId}
use Rattle.cd_model.specs.Formula.{Graph}
use Rattle.cd_model.specs.Thing.{Fields}
use Rattle.cd_graph.specs.PlainFormula.{plain}
use Rattle.cd_needs.specs.RecordTypes.{plain_row}
use Rattle.cd_empty.specs.Seen.{graph_of}
use Rattle.cd_records.specs.Inner.Rests.{IsMergedSaid}
use Rattle.cd_records.specs.Inner.Standing.{IsMadeFor, IsNodeFor}
use Rattle.cd_records.proofs.MadeNodes.{batch_sound, node_for}
use Rattle.cd_records.proofs.merging.put_merged.Goals.{In_ok-made}
use Rattle.cd_records.proofs.merging.put_merged.Goals as goal

-- what is said of merged records, and the formulas for it
abbrev said_in : In_ok-made → Fields → Type 0
said_in c = IsMergedSaid (graph_of c.args.world.now) (map plain_row c.args.first.now)
    (map plain_row c.args.second.now)

is_made : (c : In_ok-made) → IsMadeFor (graph_of c.args.world.now) (said_in c)
    (map plain c.in_ok-made.made.batch.items) c.in_ok-made.made.id
is_made c = subst (λ (g : Graph). IsMadeFor g (IsMergedSaid g (map plain_row c.args.first.now)
    (map plain_row c.args.second.now)) (map plain c.in_ok-made.made.batch.items)
    c.in_ok-made.made.id) c.graph.ensures.graph c.in_ok-made.ensures

pub put_in-requires : goal.put_in-requires
put_in-requires c = let at = (goal.at.put_in-requires c).In_ok-made in
    batch_sound (graph_of c.args.world.now) (said_in at) (map plain c.in_ok-made.made.batch.items)
    c.in_ok-made.made.id (is_made at)

pub returns-clause-holding : goal.returns-clause-holding
returns-clause-holding c = let at = (goal.at.returns-clause-holding c).In_ok-made in
    subst (λ (id : NodeId). IsNodeFor (graph_of c.put_in.new.world) (said_in at) id)
    (sym c.in_ok-put_in.ensures.id)
    (node_for (graph_of c.args.world.now) (said_in at) (map plain c.in_ok-made.made.batch.items)
    c.in_ok-made.made.id (is_made at) (graph_of c.put_in.new.world) c.in_ok-put_in.ensures.added)
