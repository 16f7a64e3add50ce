use Rattle.std.proofs.Common.{subst}
use Rattle.cd_model.specs.Formula.{Graph, IsWithin}
use Rattle.cd_sites.proofs.tests.is_within.Goals as goal

-- all of the one node is seen to be in the other
pub returns-then-is_seen_within-clause-within : goal.returns-then-is_seen_within-clause-within
returns-then-is_seen_within-clause-within c so =
    subst (λ (g : Graph). IsWithin g c.args.one c.args.other) c.graph.ensures.graph
    (c.is_seen_within.ensures.elements c.if-is_seen_within.true)
