use Rattle.std.proofs.Common.{◌≡◌, drop}
use Rattle.std.specs.List.{list_any}
use Rattle.cd_sets.specs.Asking.{same_question}
use Rattle.cd_records.specs.Inner.Plain.{plain_questions}
use Rattle.cd_records.proofs.questions.is_among.Given as goal

-- it is among them if it is among those that are left
abbrev pub invariant-loop-other : goal.invariant-loop-other
invariant-loop-other l =
    list_any (same_question l.question) (plain_questions (drop l.other-index l.questions))
    ≡ list_any (same_question l.question) (plain_questions l.questions)
