use Rattle.std.proofs.Common.{◌≡◌, ◌++◌, drop, map}
use Rattle.cd_needs.specs.PlainReasons.{plain_labels}
use Rattle.cd_needs.specs.RecordTypes.{plain_row}
use Rattle.cd_records.specs.Inner.Plain.{plain_said}
use Rattle.cd_records.specs.Inner.Saying.{merged_entries}
use Rattle.cd_records.proofs.merged_formulas.said_at_all.Given as goal

-- the entries so far, and those of the labels that are left, are all
abbrev pub invariant-loop-label : goal.invariant-loop-label
invariant-loop-label l = map plain_said l.all.items
    ++ merged_entries (map plain_row l.first) (map plain_row l.second)
    (plain_labels (drop l.label-index l.labels))
    ≡ merged_entries (map plain_row l.first) (map plain_row l.second) (plain_labels l.labels)
