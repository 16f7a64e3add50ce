use Rattle.std.proofs.Common.{◌++◌, drop, map}
use Rattle.cd_rules.specs.Family.{SameMembers}
use Rattle.cd_forms.specs.Inner.ItemQuestions.{items_of_states}
use Rattle.cd_forms.specs.Inner.States.{plain_state}
use Rattle.cd_forms.proofs.of_sequences.item_questions.item_questions.Given as goal

-- the questions so far, and those of what is left, are all
abbrev pub invariant-loop-state : goal.invariant-loop-state
invariant-loop-state l = SameMembers
    (l.items ++ items_of_states l.marks (map plain_state (drop l.state-index l.states)))
    (items_of_states l.marks (map plain_state l.states))
