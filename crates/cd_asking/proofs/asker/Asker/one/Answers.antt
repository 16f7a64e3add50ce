use Rattle.std.proofs.Common.{[], ◌∷◌, length}
use Rattle.cd_graph.specs.Nodes.{nodes}
use Rattle.cd_cells.specs.Table.{names}
use Rattle.cd_asking.specs.Inner.Asked.{AreBelow}
use Rattle.cd_asking.proofs.Kept.{knows_more, grown_none, adds_each}
use Rattle.cd_asking.proofs.asker.Asker.one.Goals as goal

-- the node is one of the graph
pub returns-clause-right : goal.returns-clause-right
returns-clause-right c =
    knows_more (nodes c.args.graph.now) (names c.args.values.now) c.args.self.now c.number.new.self c.args.self.now.rows c.number.ensures.grows
    (grown_none c.args.self.now.rows)
    (adds_each (AreBelow (length (nodes c.args.graph.now))) (c.args.node ∷ []) c.args.self.now.sets c.number.new.self c.requires.right.nodes
    (c.requires.node, tt) c.number.ensures.adds) c.requires.right
