use Rattle.std.proofs.Common.{◌≡◌, length}
use Rattle.cd_graph.specs.Nodes.{nodes}
use Rattle.cd_matching.specs.PlainKernel.{plain_nodes}
use Rattle.cd_filter.specs.Inner.Forming.{AreFormed}
use Rattle.cd_filter.proofs.batch.first_rows.Given as goal

-- the rows are right, one for each node so far
abbrev pub invariant-loop-number : goal.invariant-loop-number
invariant-loop-number l =
    AreFormed (nodes l.graph) (plain_nodes l.kernel.nodes.items) l.first l.rows.items
    × (length l.rows.items ≡ l.number)
