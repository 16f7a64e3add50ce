use Rattle.std.proofs.Common.{◌≡◌, ◌++◌, drop}
use Rattle.cd_needs.specs.RecordType.{record_types}
use Rattle.cd_needs.specs.PlainReasons.{plain_labels, plain_reasons}
use Rattle.cd_tasks.specs.Assignments.{reasons_by}
use Rattle.cd_tasks.proofs.reasons.reasons_by.Given as goal

-- the reasons so far, and those that what is left of the word gives, are all
abbrev pub invariant-loop-index : goal.invariant-loop-index
invariant-loop-index l =
    plain_reasons l.reasons.items
    ++ reasons_by (plain_labels l.labels) (drop l.index l.word) (record_types (drop l.index l.refused))
    ≡ reasons_by (plain_labels l.fn.labels) l.fn.word (record_types l.fn.refused)
