use Rattle.std.proofs.Common.{◌≡◌, [], ◌++◌, drop, map}
use Rattle.cd_needs.specs.Inner.PlainCells.{plain_cells}
use Rattle.cd_needs.specs.RecordType.{record_type}
use Rattle.cd_needs.specs.RecordTypes.{plain_row}
use Rattle.cd_rows.specs.Inner.Refining.{less_after, within_type}
use Rattle.cd_rows.proofs.cut.less_cells.Given as goal

-- the rows so far, and those of the cells that are left, are all, and so are the cells
abbrev pub invariant-loop-index : goal.invariant-loop-index
invariant-loop-index l = (map plain_row l.rows.items
    ++ less_after (record_type l.refused) (plain_row l.row) (plain_cells l.before.items)
    (plain_cells (drop l.index l.cells))
    ≡ less_after (record_type l.refused) (plain_row l.row) [] (plain_cells l.cells))
    × (plain_cells l.before.items
    ++ map (within_type (record_type l.refused)) (plain_cells (drop l.index l.cells))
    ≡ map (within_type (record_type l.refused)) (plain_cells l.cells))
