use Rattle.std.proofs.Common.{◌≡◌, ◌<◌, ◌+◌, ◌++◌, List, map, length, sym, ap, subst, ◌∙◌}
use Rattle.cd_model.specs.AllOf.{AllOf}
use Rattle.cd_model.specs.Formula.{Graph, IsFormula}
use Rattle.cd_graph.specs.Nodes.{nodes}
use Rattle.cd_graph.specs.PlainFormula.{plain, plain_list}
use Rattle.cd_empty.specs.Seen.{graph_of}
use Rattle.cd_forms.specs.declared.of_sequences.state.State.{State as CodeState}
use Rattle.cd_forms.specs.Inner.Joins.{IsJoin}
use Rattle.cd_forms.specs.Inner.StateFormulas.{StatesAsk, AreStateFormulas}
use Rattle.cd_forms.specs.Inner.States.{plain_state}
use Rattle.cd_forms.proofs.Outcomes.{both_ok}
use Rattle.cd_forms.proofs.StateNodes.{batch_sound, first_below, join_of}
use Rattle.cd_forms.proofs.StatesExplored.{explored_ask}
use Rattle.cd_forms.proofs.of_sequences.join.put_join.Goals as goal
use Rattle.cd_forms.proofs.of_sequences.join.put_join.Goals.{After-graph-2, In_ok-of}

-- the graph did not change, and the states are those that are explored
same : (c : After-graph-2) → nodes c.graph-2.result.now ≡ graph_of c.args.world.now
same c = c.graph-2.ensures.graph ∙ c.in_ok-explored.ensures.graph

pub state_formulas-requires-clause-asks : goal.state_formulas-requires-clause-asks
state_formulas-requires-clause-asks c =
    let graph = graph_of c.args.world.now in
    let states = c.in_ok-explored.explored.states.items in
    subst (λ (g : Graph). StatesAsk (length g) (map plain_state c.as_slice-states.result.now))
    (sym (same c))
    (subst (λ (all : List CodeState). StatesAsk (length graph) (map plain_state all))
    (sym c.as_slice-states.ensures.value)
    (explored_ask graph c.args.first c.in_ok-explored.explored.questions (map plain_state states)
    c.in_ok-explored.ensures.explored))

-- the formulas of the states
formulas : (c : In_ok-of) → AreStateFormulas (graph_of c.args.world.now) c.args.second
    (map plain_state c.in_ok-explored.explored.states.items) (plain_list c.in_ok-of.field-0)
formulas c =
    let graph = graph_of c.args.world.now in
    let states = map plain_state c.in_ok-explored.explored.states.items in
    subst (AreStateFormulas graph c.args.second states) (sym c.in_ok-of.ensures)
    (subst (λ (all : List CodeState). AreStateFormulas graph c.args.second (map plain_state all)
    (map plain c.in_ok-batch.batch.items)) c.as_slice-states.ensures.value
    (subst (λ (g : Graph). AreStateFormulas g c.args.second
    (map plain_state c.as_slice-states.result.now) (map plain c.in_ok-batch.batch.items))
    (same (goal.at.In_ok-of c).After-graph-2) c.in_ok-batch.ensures))

pub extend-requires : goal.extend-requires
extend-requires c =
    let graph = graph_of c.args.world.now in
    let batch = plain_list c.in_ok-of.field-0 in
    subst (λ (g : Graph). AllOf (IsFormula (length g + length batch)) batch)
    (sym c.in_ok-explored.ensures.graph)
    (batch_sound graph c.graph.ensures.sound c.args.first c.args.second c.requires.second
    c.in_ok-explored.explored.questions
    (map plain_state c.in_ok-explored.explored.states.items) c.in_ok-explored.ensures.explored batch
    (formulas (goal.at.extend-requires c).In_ok-of))

pub returns-clause-join : goal.returns-clause-join
returns-clause-join c =
    let graph = graph_of c.args.world.now in
    let batch = plain_list c.in_ok-of.field-0 in
    let stays = c.in_ok-explored.ensures.graph in
    let made = formulas (goal.at.returns-clause-join c).In_ok-of in
    both_ok c.extend.result _ _ _ (λ id first added.
    subst (λ (g : Graph). IsJoin graph g c.args.first c.args.second id)
    (sym (added ∙ ap (λ g. g ++ batch) stays))
    (join_of graph c.graph.ensures.sound c.args.first c.args.second c.requires.second
    c.in_ok-explored.explored.questions
    (map plain_state c.in_ok-explored.explored.states.items) c.in_ok-explored.ensures.explored batch
    made id (first ∙ ap length stays))) c.extend.ensures.first c.extend.ensures.added

pub returns-clause-node : goal.returns-clause-node
returns-clause-node c =
    let graph = graph_of c.args.world.now in
    let batch = plain_list c.in_ok-of.field-0 in
    let stays = c.in_ok-explored.ensures.graph in
    let made = formulas (goal.at.returns-clause-node c).In_ok-of in
    both_ok c.extend.result _ _ _ (λ id first added.
    subst (λ (g : Graph). id.0 < length g) (sym (added ∙ ap (λ g. g ++ batch) stays))
    (first_below graph c.graph.ensures.sound c.args.first c.args.second c.requires.second
    c.in_ok-explored.explored.questions
    (map plain_state c.in_ok-explored.explored.states.items) c.in_ok-explored.ensures.explored batch
    made id (first ∙ ap length stays))) c.extend.ensures.first c.extend.ensures.added
