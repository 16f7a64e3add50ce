use Rattle.cd_empty.specs.Seen.{graph_of}
use Rattle.cd_builders.proofs.AloneNodes.{alone_below}
use Rattle.cd_builders.proofs.outermost.is_within.Goals as goal

pub is_within_node-requires-clause-node : goal.is_within_node-requires-clause-node
is_within_node-requires-clause-node c = alone_below (graph_of c.args.world.now)
    c.graph.ensures.built_in.0 c.graph.ensures.built_in.1 c.args.other.now c.in-Some.id
    c.requires.other c.in-Some.ensures
