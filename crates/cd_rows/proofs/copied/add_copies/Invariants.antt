use Rattle.std.proofs.Common.{◌≡◌, ◌++◌, drop}
use Rattle.cd_needs.specs.Inner.PlainCells.{plain_cells}
use Rattle.cd_rows.proofs.copied.add_copies.Given as goal

-- the cells so far, and those that are left, are all
abbrev pub invariant-loop-cell : goal.invariant-loop-cell
invariant-loop-cell l = plain_cells l.all.items ++ plain_cells (drop l.cell-index l.cells)
    ≡ plain_cells l.fn.all.items ++ plain_cells l.cells
