use Rattle.std.proofs.Common.{◌++◌, sym, ◌∙◌}
use Rattle.cd_forms.specs.Inner.ItemQuestions.{items_of_steps}
use Rattle.cd_forms.proofs.ItemsGathered.{same_itself, item_added, none_added, steps_done}
use Rattle.cd_forms.proofs.of_sequences.item_questions.add_items.Goals as goal

pub loop-step-init : goal.loop-step-init
loop-step-init c =
    same_itself (c.args.items.now ++ items_of_steps c.args.marks.now c.args.steps.now)

-- one step more
pub loop-step-preserved : goal.loop-step-preserved
loop-step-preserved c =
    let marks = c.args.marks.now in
    let steps = c.args.steps.now in
    let i = c.loop-step.step-index in
    let step = c.step-item.result in
    let whole = c.args.items.now ++ items_of_steps marks steps in
    elim c.if-is_marked.branch [
      | goal.then-is_marked+in_ok-copy+in_ok-number w ↦ rw w.items-is (item_added marks steps i step
          c.loop-step-test.true c.step-item.is whole c.loop-step.items w.number.new.self
          w.in_ok-number.field-0 w.in_ok-copy.field-0
          (sym c.is_marked.ensures ∙ w.if-is_marked.true)
          c.loop-step.invariant w.in_ok-copy.ensures w.in_ok-number.ensures.found
          w.in_ok-number.ensures.grows)
      | goal.else-is_marked w ↦ rw w.items-is (none_added marks steps i step c.loop-step-test.true
          c.step-item.is whole c.loop-step.items (sym c.is_marked.ensures ∙ w.if-is_marked.false)
          c.loop-step.invariant)
    ]

pub returns : goal.returns
returns c = steps_done c.args.marks.now c.args.steps.now c.loop-step.step-index c.loop-step.items
    (c.args.items.now ++ items_of_steps c.args.marks.now c.args.steps.now) c.loop-step-test.false
    c.loop-step.invariant
