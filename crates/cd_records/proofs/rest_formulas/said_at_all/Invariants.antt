use Rattle.std.proofs.Common.{◌≡◌, ◌++◌, drop, map}
use Rattle.cd_needs.specs.PlainReasons.{plain_labels}
use Rattle.cd_needs.specs.RecordTypes.{plain_row}
use Rattle.cd_records.specs.Inner.Leaving.{entries_at}
use Rattle.cd_records.specs.Inner.Plain.{plain_said}
use Rattle.cd_records.proofs.rest_formulas.said_at_all.Given as goal

-- the entries so far, and those of the labels that are left, are all
abbrev pub invariant-loop-name : goal.invariant-loop-name
invariant-loop-name l = map plain_said l.all.items
    ++ entries_at (plain_row l.row) l.label (plain_labels (drop l.name-index l.labels))
    ≡ entries_at (plain_row l.row) l.label (plain_labels l.labels)
