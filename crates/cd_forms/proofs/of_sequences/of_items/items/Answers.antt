use Rattle.std.proofs.Common.{Bool, List, map, length, sym, subst}
use Rattle.std.proofs.lemmas.Result.{IfOk-weaker}
use Rattle.cd_sets.specs.declared.node_id.NodeId.{NodeId}
use Rattle.cd_sets.specs.declared.question.Question.{Question}
use Rattle.cd_model.specs.AllOf.{AllOf}
use Rattle.cd_model.specs.Formula.{Graph}
use Rattle.cd_rules.specs.Family.{AsksNodes}
use Rattle.cd_builders.specs.Unions.{HoldsUnion}
use Rattle.cd_empty.specs.Seen.{graph_of}
use Rattle.cd_empty.proofs.GrowingWorlds.{and_further}
use Rattle.cd_forms.specs.declared.of_sequences.state.State.{State as CodeState}
use Rattle.cd_forms.specs.Inner.Ending.{AreMarked}
use Rattle.cd_forms.specs.Inner.ItemQuestions.{AreItems}
use Rattle.cd_forms.specs.Inner.States.{plain_state}
use Rattle.cd_forms.proofs.ItemsOfStates.{asked_is_item, item_is_asked, item_questions_ask}
use Rattle.cd_forms.proofs.of_sequences.of_items.items.Goals as goal
use Rattle.cd_forms.proofs.of_sequences.of_items.items.Goals.{In_ok-questions, After-union}

-- the states that are explored, their marks, and what items are asked
marked : (c : In_ok-questions) → AreMarked
    (map plain_state c.in_ok-explored.explored.states.items) c.in_ok-marks.marks.items
marked c = subst (λ (all : List CodeState).
    AreMarked (map plain_state all) c.in_ok-marks.marks.items) c.as_slice-states.ensures.value
    c.in_ok-marks.ensures

asked : (c : In_ok-questions) → AreItems c.in_ok-marks.marks.items
    (map plain_state c.in_ok-explored.explored.states.items) c.in_ok-questions.questions
asked c = subst (λ (all : List CodeState). AreItems c.in_ok-marks.marks.items (map plain_state all)
    c.in_ok-questions.questions) c.as_slice-states.ensures.value
    (subst (λ (marks : List Bool). AreItems marks (map plain_state c.as_slice-states.result.now)
    c.in_ok-questions.questions) c.as_slice.ensures.value c.in_ok-questions.ensures)

pub union-requires : goal.union-requires
union-requires c =
    let at = (goal.at.union-requires c).In_ok-questions in
    subst (λ (all : List Question). AllOf (AsksNodes (length (graph_of c.explore.new.world))) all)
    (sym c.items.ensures)
    (subst (λ (g : Graph). AllOf (AsksNodes (length g)) c.in_ok-questions.questions)
    (sym c.in_ok-explored.ensures.graph)
    (item_questions_ask (graph_of c.args.world.now) c.args.list
    c.in_ok-explored.explored.questions (map plain_state c.in_ok-explored.explored.states.items)
    c.in_ok-explored.ensures.explored c.in_ok-marks.marks.items (marked at)
    c.in_ok-questions.questions (asked at)))

-- what is in the union
union_is : (c : After-union) (id : NodeId)
    → HoldsUnion (graph_of c.explore.new.world) c.items.result.now (graph_of c.union.new.world) id
    → HoldsUnion (graph_of c.args.world.now) c.in_ok-questions.questions
    (graph_of c.union.new.world) id
union_is c id holds =
    subst (λ (all : List Question). HoldsUnion (graph_of c.args.world.now) all
    (graph_of c.union.new.world) id) c.items.ensures
    (subst (λ (g : Graph). HoldsUnion g c.items.result.now (graph_of c.union.new.world) id)
    c.in_ok-explored.ensures.graph holds)

pub returns-clause-has : goal.returns-clause-has
returns-clause-has c =
    let end = (goal.at.returns-clause-has c).After-union in
    let at = (goal.at.After-union end).In_ok-questions in
    IfOk-weaker c.union.result _ _ (λ id holds e element item.
    ((union_is end id holds).exact e element).1
    (item_is_asked (graph_of c.args.world.now) c.args.list c.in_ok-explored.explored.questions
    (map plain_state c.in_ok-explored.explored.states.items) c.in_ok-explored.ensures.explored
    c.in_ok-marks.marks.items (marked at) c.in_ok-questions.questions (asked at) e item))
    c.union.ensures.union

pub returns-clause-only : goal.returns-clause-only
returns-clause-only c =
    let end = (goal.at.returns-clause-only c).After-union in
    let at = (goal.at.After-union end).In_ok-questions in
    IfOk-weaker c.union.result _ _ (λ id holds e element inside.
    asked_is_item (graph_of c.args.world.now) c.args.list c.in_ok-explored.explored.questions
    (map plain_state c.in_ok-explored.explored.states.items) c.in_ok-explored.ensures.explored
    c.in_ok-marks.marks.items (marked at) c.in_ok-questions.questions (asked at) e element
    (((union_is end id holds).exact e element).0 inside)) c.union.ensures.union

pub returns-clause-node : goal.returns-clause-node
returns-clause-node c = IfOk-weaker c.union.result _ _ (λ id holds. holds.node)
    c.union.ensures.union

pub returns-clause-grows : goal.returns-clause-grows
returns-clause-grows c = and_further c.args.world.now c.explore.new.world c.union.new.world
    c.in_ok-explored.ensures.grows c.union.ensures.grows
