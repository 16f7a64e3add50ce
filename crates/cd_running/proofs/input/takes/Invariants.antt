use Rattle.std.proofs.Common.{length}
use Rattle.cd_cells.specs.Cells.{thing_at}
use Rattle.cd_cells.specs.Table.{table}
use Rattle.cd_graph.specs.Nodes.{nodes}
use Rattle.cd_running.specs.Inner.ArrowsLeft.{AreLeft}
use Rattle.cd_running.proofs.input.takes.Given as goal

abbrev pub invariant-loop-arrow : goal.invariant-loop-arrow
invariant-loop-arrow l = AreLeft (nodes l.graph) (thing_at (table l.values) l.value.0) l.arrows l.left

abbrev pub decreases-loop-arrow : goal.decreases-loop-arrow
decreases-loop-arrow l = length l.left
