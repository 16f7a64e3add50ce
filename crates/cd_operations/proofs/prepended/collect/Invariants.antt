use Rattle.cd_cells.specs.Cells.{thing_at}
use Rattle.cd_cells.specs.Table.{table}
use Rattle.cd_operations.proofs.Prepending.{IsCollecting}
use Rattle.cd_operations.proofs.prepended.collect.Given as goal

abbrev pub invariant-loop-first : goal.invariant-loop-first
invariant-loop-first l = IsCollecting (table l.values) (thing_at (table l.values) l.fn.all.0) l.left.0 l.stack.items

abbrev pub decreases-loop-first : goal.decreases-loop-first
decreases-loop-first l = l.left.0
