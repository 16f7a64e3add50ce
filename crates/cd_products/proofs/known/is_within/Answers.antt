use Rattle.std.proofs.Common.{subst}
use Rattle.cd_model.specs.Formula.{Graph, IsWithin}
use Rattle.cd_empty.specs.Seen.{graph_of}
use Rattle.cd_products.specs.Keeping.{AreValuesWithin}
use Rattle.cd_products.proofs.SameNodes.{value_within}
use Rattle.cd_products.proofs.known.is_within.Goals as goal

pub returns-then-is_seen_within-clause-elements : goal.returns-then-is_seen_within-clause-elements
returns-then-is_seen_within-clause-elements c so =
    subst (λ (g : Graph). IsWithin g c.args.one c.args.other) c.graph.ensures.graph
    (c.is_seen_within.ensures.elements c.if-is_seen_within.true)

pub returns-then-is_seen_within-clause-values : goal.returns-then-is_seen_within-clause-values
returns-then-is_seen_within-clause-values c so =
    subst (λ (g : Graph). AreValuesWithin g c.args.one c.args.other) c.graph.ensures.graph
    (c.is_seen_within.ensures.values c.if-is_seen_within.true)

pub returns-in-Ok-Empty-clause-values : goal.returns-in-Ok-Empty-clause-values
returns-in-Ok-Empty-clause-values c so =
    value_within (graph_of c.args.world.now) c.graph.ensures.built_in c.args.one c.args.other
    (rw c.in-Ok-Empty.field-0-is at c.in-Ok-Empty.ensures.exact).1
