use Rattle.std.proofs.Common.{◌≡◌, ◌++◌, drop}
use Rattle.cd_needs.specs.RecordType.{record_types}
use Rattle.cd_needs.specs.Inner.PlainCells.{plain_cells, cells_at}
use Rattle.cd_needs.specs.PlainReasons.{plain_labels, plain_reasons}
use Rattle.cd_needs.proofs.record_rows.cells.Given as goal

-- the cells so far, and those of the labels that are left, are all
abbrev pub invariant-loop-label : goal.invariant-loop-label
invariant-loop-label l =
    plain_cells l.cells.items
    ++ cells_at (record_types l.wanted) (plain_reasons l.reasons) (plain_labels (drop l.label-index l.labels))
    ≡ cells_at (record_types l.fn.wanted) (plain_reasons l.fn.reasons) (plain_labels l.fn.labels)
