use Rattle.cd_cells.specs.Table.{table}
use Rattle.cd_operations.proofs.Seeking.{IsSeeking}
use Rattle.cd_operations.proofs.extremes.among.Given as goal

abbrev pub invariant-loop-item : goal.invariant-loop-item
invariant-loop-item l = IsSeeking (table l.values) l.wanted l.fn.first l.fn.others l.best l.left

abbrev pub decreases-loop-item : goal.decreases-loop-item
decreases-loop-item l = l.left.0
