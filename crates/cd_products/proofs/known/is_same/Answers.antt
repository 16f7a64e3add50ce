use Rattle.std.proofs.Common.{subst}
use Rattle.cd_model.specs.Formula.{Graph, IsWithin}
use Rattle.cd_empty.specs.Seen.{graph_of}
use Rattle.cd_products.specs.Keeping.{AreValuesWithin}
use Rattle.cd_products.proofs.SameNodes.{hold_same}
use Rattle.cd_products.proofs.known.is_same.Goals as goal

pub returns-then-is_within-clause-same : goal.returns-then-is_within-clause-same
returns-then-is_within-clause-same c found =
    let same = c.is_within.ensures.graph in
    hold_same (graph_of c.args.world.now) c.args.one c.args.other
    (c.is_within.ensures.elements c.if-is_within.true)
    (subst (λ (g : Graph). IsWithin g c.args.other c.args.one) same
    (c.is_within-then-is_within.ensures.elements found))
    (c.is_within.ensures.values c.if-is_within.true)
    (subst (λ (g : Graph). AreValuesWithin g c.args.other c.args.one) same
    (c.is_within-then-is_within.ensures.values found))
