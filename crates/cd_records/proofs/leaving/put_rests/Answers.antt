use Rattle.std.proofs.Common.{◌+◌, ◌++◌, List, map, length, ap, subst, sym, ◌∙◌}
use Rattle.cd_sets.specs.declared.node_id.NodeId.{NodeId}
use Rattle.cd_model.specs.AllOf.{AllOf}
use Rattle.cd_model.specs.Formula.{Formula, Graph, IsFormula}
use Rattle.cd_model.specs.Thing.{Fields}
use Rattle.cd_graph.specs.Nodes.{nodes}
use Rattle.cd_graph.specs.PlainFormula.{plain}
use Rattle.cd_needs.specs.RecordTypes.{plain_row}
use Rattle.cd_empty.specs.Seen.{graph_of}
use Rattle.cd_records.specs.Inner.Plain.{plain_rest}
use Rattle.cd_records.specs.Inner.Rests.{IsOfRests, IsRestNode, Rest, RestIsIn}
use Rattle.cd_records.specs.Inner.Standing.{IsMadeFor}
use Rattle.cd_records.proofs.AskNodes.{rests_are_in}
use Rattle.cd_records.proofs.MadeNodes.{batch_sound, node_for}
use Rattle.cd_records.proofs.RestNodes.{rest_node}
use Rattle.cd_records.proofs.leaving.put_rests.Goals.{In_ok-made}
use Rattle.cd_records.proofs.leaving.put_rests.Goals as goal

pub made_of-requires-clause-rests : goal.made_of-requires-clause-rests
made_of-requires-clause-rests c =
    let graph = graph_of c.args.world.now in
    subst (λ (g : Graph). AllOf (RestIsIn g) (map plain_rest c.as_slice.result.now))
    (sym (c.graph-2.ensures.graph ∙ c.in_ok-rests.ensures.after.graph))
    (subst (AllOf (RestIsIn graph)) (sym (ap (map plain_rest) c.as_slice.ensures.value))
    (rests_are_in graph c.args.label.now (map plain_row c.args.rows.now)
    (map plain_rest c.in_ok-rests.rests.items) c.requires.rows c.in_ok-rests.ensures.rests))

-- the rests, what is said of them, and the formulas for it
abbrev rests_in : In_ok-made → List Rest
rests_in c = map plain_rest c.in_ok-rests.rests.items

abbrev said_in : In_ok-made → Fields → Type 0
said_in c = IsOfRests (graph_of c.args.world.now) c.args.label.now (rests_in c)

is_made : (c : In_ok-made) → IsMadeFor (graph_of c.args.world.now) (said_in c)
    (map plain c.in_ok-made.made.batch.items) c.in_ok-made.made.id
is_made c = subst (λ (g : Graph). IsMadeFor g (IsOfRests g c.args.label.now (rests_in c))
    (map plain c.in_ok-made.made.batch.items) c.in_ok-made.made.id)
    (c.graph-2.ensures.graph ∙ c.in_ok-rests.ensures.after.graph)
    (subst (λ rests. IsMadeFor (nodes c.graph-2.result.now)
    (IsOfRests (nodes c.graph-2.result.now) c.args.label.now (map plain_rest rests))
    (map plain c.in_ok-made.made.batch.items) c.in_ok-made.made.id) c.as_slice.ensures.value
    c.in_ok-made.ensures)

pub put_in-requires : goal.put_in-requires
put_in-requires c =
    let at = (goal.at.put_in-requires c).In_ok-made in
    let batch = map plain c.in_ok-made.made.batch.items in
    subst (λ (g : Graph). AllOf (IsFormula (length g + length batch)) batch)
    (sym c.in_ok-rests.ensures.after.graph)
    (batch_sound (graph_of c.args.world.now) (said_in at) batch c.in_ok-made.made.id (is_made at))

pub returns-clause-holding : goal.returns-clause-holding
returns-clause-holding c =
    let at = (goal.at.returns-clause-holding c).In_ok-made in
    let graph = graph_of c.args.world.now in
    let known = c.graph.ensures in
    let batch = map plain c.in_ok-made.made.batch.items in
    let new = graph_of c.put_in.new.world in
    subst (λ (id : NodeId). IsRestNode graph new c.args.label.now (map plain_row c.args.rows.now)
    id) (sym c.in_ok-put_in.ensures.id)
    (rest_node graph known.built_in.0 known.built_in.1 c.args.label.now c.requires.label
    (map plain_row c.args.rows.now) (rests_in at) c.in_ok-rests.ensures.rests new
    c.in_ok-made.made.id
    (node_for graph (said_in at) batch c.in_ok-made.made.id (is_made at) new
    (c.in_ok-put_in.ensures.added
    ∙ ap (λ (g : Graph). g ++ batch) c.in_ok-rests.ensures.after.graph)))
