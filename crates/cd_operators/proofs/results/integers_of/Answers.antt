use Rattle.cd_graph.specs.Nodes.{nodes}
use Rattle.cd_operators.proofs.ResultNodes.{integers_there}
use Rattle.cd_operators.proofs.results.integers_of.Goals as goal

pub returns : goal.returns
returns c = integers_there (nodes c.args.graph.now) c.args.id c.in_ok-asked.asked
    c.in_ok-basics.field-0.integers c.in_ok-asked.ensures c.in_ok-basics.ensures.integers
