use Rattle.cd_graph.specs.Nodes.{nodes}
use Rattle.cd_empty.proofs.world.World.new.Goals as goal

pub invariant_of-result : goal.invariant_of-result
invariant_of-result c = c.new-2.ensures.sound (nodes c.in_ok-new.field-0)
