use Rattle.std.proofs.Common.{◌≡◌, ℕ, List, map, length, Some, None, refl, sym, subst}
use Rattle.std.proofs.Common.{◌∙◌, ap, Vec, Global}
use Rattle.std.proofs.lemmas.List.{length-map, map_push}
use Rattle.std.specs.List.{slice_get}
use Rattle.std.specs.Vec.{vec_len}
use Rattle.cd_model.specs.Formula.{Graph}
use Rattle.cd_rules.specs.Family.{AsksNodes}
use Rattle.cd_empty.specs.Seen.{graph_of}
use Rattle.cd_empty.proofs.GrowingWorlds.{to_itself, and_further}
use Rattle.cd_forms.specs.declared.of_sequences.state.State.{State as CodeState}
use Rattle.cd_forms.specs.Inner.States.{State, plain_state, IsStateAfter, AreExploring}
use Rattle.cd_forms.proofs.StatesExplored.{exploring_first, exploring_more, explored_all}
use Rattle.cd_forms.proofs.StatesExplored.{question_reached}
use Rattle.cd_forms.proofs.of_sequences.explore.explore.Goals as goal
use Rattle.cd_forms.proofs.of_sequences.explore.explore.Goals.{In_ok-question, In_ok-push}

pub loop-question-init : goal.loop-question-init
loop-question-init c =
    let graph = graph_of c.args.world.now in record {
      explores = subst (λ (states : List State).
          AreExploring graph c.args.start c.number.new.self states)
          (sym (ap (map plain_state) c.new-states.ensures.items))
          (exploring_first graph c.args.start c.new-questions.result c.number.new.self
          c.in_ok-number.field-0 c.in_ok-asking.field-0 c.new-questions.ensures c.requires
          c.in_ok-asking.ensures c.in_ok-number.ensures.found c.in_ok-number.ensures.grows);
      graph = refl;
      grows = to_itself c.args.world.now;
    }

-- how many states there are
counted : (states : Vec CodeState Global) (count : ℕ) → count ≡ vec_len states
    → count ≡ length (map plain_state states.items)
counted states count same = same ∙ states.ok.0 ∙ sym (length-map states.items plain_state)

-- the next question has the number of the states so far
there : (c : In_ok-question) → slice_get c.loop-question.questions
    (length (map plain_state c.loop-question.states.items)) ≡ Some c.in_ok-question.question
there c = subst (λ (k : ℕ). slice_get c.loop-question.questions k ≡ Some c.in_ok-question.question)
    (counted c.loop-question.states c.len.result c.len.ensures)
    (sym c.in-Some.ensures ∙ ap Some (sym c.in_ok-question.ensures))

pub state_of-requires : goal.state_of-requires
state_of-requires c =
    let graph = graph_of c.args.world.now in
    subst (λ (graph : Graph). AsksNodes (length graph) c.in_ok-question.question)
    (sym c.loop-question.invariant.graph)
    (question_reached graph c.args.start c.loop-question.questions
    (map plain_state c.loop-question.states.items) c.loop-question.invariant.explores
    (length (map plain_state c.loop-question.states.items)) c.in_ok-question.question
    (there (goal.at.state_of-requires c).In_ok-question)).0

-- one question more has a state
goes_on : (c : In_ok-push) → AreExploring (graph_of c.args.world.now) c.args.start
    c.state_of.new.questions (map plain_state c.push.new.self.items)
goes_on c =
    let graph = graph_of c.args.world.now in
    let states = map plain_state c.loop-question.states.items in
    let state = c.in_ok-state_of.field-0 in
    let question = c.in_ok-question.question in
    subst (λ (all : List State).
    AreExploring graph c.args.start c.state_of.new.questions all)
    (sym (ap (map plain_state) c.in_ok-push.ensures.items
    ∙ map_push plain_state c.loop-question.states.items state))
    (exploring_more graph c.args.start c.loop-question.questions c.state_of.new.questions states
    question (plain_state state) c.loop-question.invariant.explores
    (there (goal.at.In_ok-push c).In_ok-question)
    (subst (λ (graph : Graph). IsStateAfter graph c.loop-question.questions
    c.state_of.new.questions question (plain_state state)) c.loop-question.invariant.graph
    c.in_ok-state_of.ensures.state))

pub loop-question-preserved-in_ok-push : goal.loop-question-preserved-in_ok-push
loop-question-preserved-in_ok-push c = record {
  explores = goes_on (goal.at.loop-question-preserved-in_ok-push c).In_ok-push;
  graph = c.in_ok-state_of.ensures.graph ∙ c.loop-question.invariant.graph;
  grows = and_further c.args.world.now c.loop-question.world c.state_of.new.world
      c.loop-question.invariant.grows c.in_ok-state_of.ensures.grows;
}

pub loop-question-preserved : goal.loop-question-preserved
loop-question-preserved c = record {
  explores = goes_on (goal.at.loop-question-preserved c).In_ok-push;
  graph = c.in_ok-state_of.ensures.graph ∙ c.loop-question.invariant.graph;
  grows = and_further c.args.world.now c.loop-question.world c.state_of.new.world
      c.loop-question.invariant.grows c.in_ok-state_of.ensures.grows;
}

pub returns-clause-explored : goal.returns-clause-explored
returns-clause-explored c = explored_all (graph_of c.args.world.now) c.args.start
    c.loop-question.questions (map plain_state c.loop-question.states.items)
    c.loop-question.invariant.explores
    (subst (λ (k : ℕ). slice_get c.loop-question.questions k ≡ None)
    (counted c.loop-question.states c.len.result c.len.ensures) (sym c.in_default.ensures))
