use Rattle.std.proofs.Common.{◌≡◌, drop, map}
use Rattle.cd_needs.specs.RecordTypes.{plain_row}
use Rattle.cd_records.specs.Inner.Plain.{plain_questions}
use Rattle.cd_records.specs.Inner.Saying.{every_of, with_questions}
use Rattle.cd_records.proofs.questions.add_every.Given as goal

-- the questions of the rows that are left, put after those so far, are all
abbrev pub invariant-loop-row : goal.invariant-loop-row
invariant-loop-row l =
    with_questions (every_of (map plain_row (drop l.row-index l.rows)))
    (plain_questions l.questions.items)
    ≡ with_questions (every_of (map plain_row l.rows)) (plain_questions l.fn.questions.items)
