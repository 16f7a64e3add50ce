use Rattle.std.proofs.Common.{◌++◌, drop}
use Rattle.cd_rules.specs.Family.{SameMembers}
use Rattle.cd_forms.specs.Inner.ItemQuestions.{items_of_steps}
use Rattle.cd_forms.proofs.of_sequences.item_questions.add_items.Given as goal

-- the questions so far, and those of what is left, are all
abbrev pub invariant-loop-step : goal.invariant-loop-step
invariant-loop-step l = SameMembers
    (l.items ++ items_of_steps l.marks (drop l.step-index l.steps))
    (l.fn.items ++ items_of_steps l.marks l.steps)
