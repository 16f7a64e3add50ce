use Rattle.std.proofs.Common.{◌≡◌, [], drop}
use Rattle.cd_records.specs.Inner.Plain.{plain_questions}
use Rattle.cd_records.specs.Inner.Saying.{with_questions}
use Rattle.cd_records.proofs.questions.distinct.Given as goal

-- the questions that are left, put after those so far, are all
abbrev pub invariant-loop-question : goal.invariant-loop-question
invariant-loop-question l =
    with_questions (drop l.question-index l.questions) (plain_questions l.all.items)
    ≡ with_questions l.questions []
