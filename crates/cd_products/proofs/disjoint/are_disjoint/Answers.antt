use Rattle.std.proofs.Common.{subst}
use Rattle.cd_empty.specs.Seen.{graph_of}
use Rattle.cd_products.specs.Inner.Apart.{AreApart}
use Rattle.cd_products.proofs.DisjointSets.{apart_has_none}
use Rattle.cd_products.proofs.disjoint.are_disjoint.Goals as goal

-- they are seen to be apart
pub returns-then-branch-clause-disjoint : goal.returns-then-branch-clause-disjoint
returns-then-branch-clause-disjoint c so =
    apart_has_none (graph_of c.args.world.now) c.args.one c.args.other
    (subst (λ graph. AreApart graph c.args.one c.args.other) c.graph.ensures.graph
    ((rw c.if-branch.true at c.in_ok-are_seen_apart.ensures) so))
