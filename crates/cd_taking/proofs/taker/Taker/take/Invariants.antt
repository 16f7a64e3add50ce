use Rattle.cd_matching.specs.PlainKernel.{plain_nodes}
use Rattle.cd_cells.specs.Cells.{thing_at}
use Rattle.cd_cells.specs.Table.{table}
use Rattle.cd_taking.specs.Inner.Coded.{state}
use Rattle.cd_taking.specs.Inner.Running.{IsRunning}
use Rattle.cd_taking.specs.Inner.Work.{work}
use Rattle.cd_taking.proofs.taker.Taker.take.Given as goal

abbrev pub invariant-loop-then : goal.invariant-loop-then
invariant-loop-then l =
    IsRunning l.kernel l.fn.tests l.fn.values (thing_at (table l.fn.values) l.fn.id.0) l.tests l.values l.self l.next

abbrev pub decreases-loop-then : goal.decreases-loop-then
decreases-loop-then l = work (plain_nodes l.kernel.nodes.items) (state (table l.values) l.self l.next)
