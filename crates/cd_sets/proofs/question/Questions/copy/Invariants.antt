use Rattle.std.proofs.Common.{◌≡◌, take}
use Rattle.cd_sets.proofs.question.Questions.copy.Given as goal

-- the questions that were passed are copied
abbrev pub invariant-loop-question : goal.invariant-loop-question
invariant-loop-question l = l.items.items ≡ take l.question-index l.question-items
