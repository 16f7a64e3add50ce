use Rattle.std.proofs.Common.{◌≡◌, drop}
use Rattle.cd_needs.specs.Inner.PlainCells.{plain_cells}
use Rattle.cd_needs.specs.PlainReasons.{plain_labels}
use Rattle.cd_records.specs.Inner.Labels.{all_inserted, labels_in}
use Rattle.cd_records.proofs.labels.add_cells.Given as goal

-- the labels of the cells that are left, put among those so far, are all
abbrev pub invariant-loop-cell : goal.invariant-loop-cell
invariant-loop-cell l =
    all_inserted (labels_in (plain_cells (drop l.cell-index l.cells))) (plain_labels l.labels.items)
    ≡ all_inserted (labels_in (plain_cells l.cells)) (plain_labels l.fn.labels.items)
