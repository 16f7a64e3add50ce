use Rattle.std.proofs.Common.{◌≡◌, ◌++◌, drop}
use Rattle.cd_records.specs.Inner.Plain.{plain_questions}
use Rattle.cd_records.proofs.questions.copies.Given as goal

-- the copies so far, and the questions that are left, are all
abbrev pub invariant-loop-question : goal.invariant-loop-question
invariant-loop-question l = l.all.items ++ plain_questions (drop l.question-index l.questions)
    ≡ plain_questions l.questions
