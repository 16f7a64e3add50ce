use Rattle.std.proofs.Common.{◌↔◌, true, subst, sym}
use Rattle.cd_model.specs.Formula.{Graph}
use Rattle.cd_model.specs.Membership.{answers}
use Rattle.cd_model.proofs.BothWays.{itself, through}
use Rattle.cd_empty.specs.Seen.{graph_of}
use Rattle.cd_builders.proofs.AloneNodes.{basic_below}
use Rattle.cd_builders.proofs.smaller.put_or.Goals as goal

pub known_node-requires-clause-others : goal.known_node-requires-clause-others
known_node-requires-clause-others c = basic_below (graph_of c.args.world.now)
    c.graph.ensures.built_in.0 c.graph.ensures.built_in.1 _ (graph_of c.put.new.world)
    c.in-Ok.ensures.added

pub returns-in-Ok-clause-holds : goal.returns-in-Ok-clause-holds
returns-in-Ok-clause-holds c e element =
    through (c.requires.same.elements e element) (through (c.in-Ok.ensures.holds e)
    (subst (λ (g : Graph). answers (graph_of c.put.new.world) e c.in-Ok.made true
    ↔ answers g e c.known_node.result true) (sym c.known_node.ensures.graph)
    (c.known_node.ensures.same.elements e element)))

pub returns-in-Err-clause-holds : goal.returns-in-Err-clause-holds
returns-in-Err-clause-holds c e element =
    subst (λ (g : Graph). answers (graph_of c.args.world.now) e c.args.id true
    ↔ answers g e c.args.id true) (sym c.in-Err.ensures.unchanged) itself
