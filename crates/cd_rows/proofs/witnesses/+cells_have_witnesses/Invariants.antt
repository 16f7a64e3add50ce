use Rattle.std.proofs.Common.{length}
use Rattle.cd_rows.proofs.witnesses.+cells_have_witnesses.Given as goal

-- the cells that are left
abbrev pub decreases-cells_have_witnesses : goal.decreases-cells_have_witnesses
decreases-cells_have_witnesses l = length l.cells.now
