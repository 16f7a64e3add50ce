use Rattle.std.proofs.Common.{◌≡◌, length}
use Rattle.cd_graph.specs.Nodes.{nodes}
use Rattle.cd_matching.specs.PlainKernel.{plain_nodes}
use Rattle.cd_filter.specs.Inner.Forming.{AreFormed}
use Rattle.cd_filter.proofs.batch.all_rows.Given as goal

-- the rows are right, one for each node
abbrev pub invariant-loop-count : goal.invariant-loop-count
invariant-loop-count l =
    AreFormed (nodes l.graph) (plain_nodes l.kernel.nodes.items) l.first l.rows.items
    × (length l.rows.items ≡ length l.kernel.nodes.items)
