use Rattle.std.proofs.Common.{◌≡◌, drop, map}
use Rattle.cd_needs.specs.PlainReasons.{plain_labels}
use Rattle.cd_needs.specs.RecordTypes.{plain_row}
use Rattle.cd_records.specs.Inner.Labels.{row_labels}
use Rattle.cd_records.proofs.labels.add_labels.Given as goal

-- the labels of the rows that are left, put among those so far, are all
abbrev pub invariant-loop-row : goal.invariant-loop-row
invariant-loop-row l =
    row_labels (map plain_row (drop l.row-index l.rows)) (plain_labels l.labels.items)
    ≡ row_labels (map plain_row l.rows) (plain_labels l.fn.labels.items)
