use Rattle.cd_cells.specs.Table.{names}
use Rattle.cd_graph.specs.Nodes.{nodes}
use Rattle.cd_asking.proofs.asking.is_in.Goals as goal

pub is_in-requires-clause-knows : goal.is_in-requires-clause-knows
is_in-requires-clause-knows c = c.new-asker.ensures (nodes c.args.graph.now) (names c.args.values.now)
