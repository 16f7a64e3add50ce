use Rattle.std.proofs.Common.{◌↔◌, true, subst, sym}
use Rattle.cd_model.specs.Formula.{Graph}
use Rattle.cd_model.specs.Membership.{answers}
use Rattle.cd_empty.specs.Seen.{graph_of}
use Rattle.cd_builders.proofs.smaller.smaller.Goals as goal

pub returns-then-known-made-clause-holds : goal.returns-then-known-made-clause-holds
returns-then-known-made-clause-holds c e element =
    subst (λ (g : Graph). answers g e c.args.made true
    ↔ answers (graph_of c.in_sets.new.world) e c.in_sets.result true)
    c.known_node-known.ensures.graph (c.in_sets.ensures.holds e element)

pub returns-clause-holds : goal.returns-clause-holds
returns-clause-holds c e element =
    subst (λ (g : Graph). answers (graph_of c.args.world.now) e c.args.made true
    ↔ answers g e c.known_node-known.result true) (sym c.known_node-known.ensures.graph)
    (c.known_node-known.ensures.same.elements e element)
