use Rattle.cd_graph.specs.Nodes.{nodes}
use Rattle.cd_products.proofs.Covering.{nodes_within, values_within, of_equal}
use Rattle.cd_products.proofs.covered.is_seen_within.Goals as goal

pub returns-clause-elements : goal.returns-clause-elements
returns-clause-elements c so = nodes_within (nodes c.args.graph.now) c.args.one c.args.other
    (of_equal c.formula.ensures.formula c.formula-2.ensures.formula (c.is_covered.ensures.covered so))

pub returns-clause-values : goal.returns-clause-values
returns-clause-values c so = values_within (nodes c.args.graph.now) c.args.one c.args.other
    c.requires.one c.requires.other
    (of_equal c.formula.ensures.formula c.formula-2.ensures.formula (c.is_covered.ensures.covered so))
