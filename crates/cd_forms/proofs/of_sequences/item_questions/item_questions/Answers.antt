use Rattle.std.proofs.Common.{◌++◌, List, map, sym, subst}
use Rattle.cd_sets.specs.declared.question.Question.{Question}
use Rattle.cd_rules.specs.Family.{SameMembers}
use Rattle.cd_forms.specs.declared.of_sequences.step.Step.{Step}
use Rattle.cd_forms.specs.Inner.ItemQuestions.{items_of_steps, items_of_states}
use Rattle.cd_forms.specs.Inner.States.{plain_state}
use Rattle.cd_forms.proofs.ItemsGathered.{same_itself, state_added, states_done}
use Rattle.cd_forms.proofs.of_sequences.item_questions.item_questions.Goals as goal

pub loop-state-init : goal.loop-state-init
loop-state-init c =
    let whole = items_of_states c.args.marks.now (map plain_state c.args.states.now) in
    subst (λ (none : List Question). SameMembers (none ++ whole) whole) (sym c.new-items.ensures)
    (same_itself whole)

-- one state more
pub loop-state-preserved : goal.loop-state-preserved
loop-state-preserved c =
    let marks = c.args.marks.now in
    let states = c.args.states.now in
    state_added marks states c.loop-state.state-index
    (items_of_states marks (map plain_state states)) c.state-item.result c.loop-state.items
    c.add_items.new.items c.loop-state-test.true c.state-item.is c.loop-state.invariant
    (subst (λ (steps : List Step).
    SameMembers c.add_items.new.items (c.loop-state.items ++ items_of_steps marks steps))
    c.as_slice.ensures.value c.in_ok-add_items.ensures)

pub returns : goal.returns
returns c =
    let marks = c.args.marks.now in
    let states = c.args.states.now in
    states_done marks states c.loop-state.state-index
    (items_of_states marks (map plain_state states)) c.loop-state.items c.loop-state-test.false
    c.loop-state.invariant
