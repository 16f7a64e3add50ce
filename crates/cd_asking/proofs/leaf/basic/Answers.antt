use Rattle.cd_graph.specs.Nodes.{nodes}
use Rattle.cd_cells.specs.Table.{names}
use Rattle.cd_asking.proofs.Kept.{knows_more, grown_none}
use Rattle.cd_asking.proofs.leaf.basic.Goals as goal

-- more sets change nothing
pub returns-clause-right : goal.returns-clause-right
returns-clause-right c =
    knows_more (nodes c.args.graph.now) (names c.args.values.now) c.args.asker.now c.find_members.new.sets c.args.asker.now.rows c.find_members.ensures.grows
    (grown_none c.args.asker.now.rows) c.find_members.ensures.sound c.requires.right
