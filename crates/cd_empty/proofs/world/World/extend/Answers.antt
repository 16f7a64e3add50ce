use Rattle.cd_graph.specs.Nodes.{nodes}
use Rattle.cd_graph.specs.PlainFormula.{plain_list}
use Rattle.cd_empty.proofs.LongerGraphs.{graph_grows, sound_extended}
use Rattle.cd_empty.proofs.world.World.extend.Goals as goal

-- the graph is what it was, or what it was and the batch
pub invariant_of-self : goal.invariant_of-self
invariant_of-self c =
    let graph = nodes c.self.inside.graph in
    let grown = nodes c.extend.new.self in
    sound_extended graph grown c.self.inside.decider c.knows.ensures.sound
    (graph_grows graph (plain_list c.args.batch) grown c.extend.result c.extend.ensures.added c.extend.ensures.kept) c.self.invariant
