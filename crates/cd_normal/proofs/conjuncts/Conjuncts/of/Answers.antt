use Rattle.std.proofs.Common.{length}
use Rattle.cd_graph.specs.Nodes.{nodes}
use Rattle.cd_normal.proofs.ConjunctsOfNodes.{partial_conjuncts_are}
use Rattle.cd_normal.proofs.conjuncts.Conjuncts.of.Goals as goal

-- the formulas of the graph are of its nodes
pub returns-clause-of_nodes : goal.returns-clause-of_nodes
returns-clause-of_nodes c =
    let graph = nodes c.args.graph.now in
    rw (c.in_ok-items.ensures, c.in_ok-formulas_of.ensures)
    (partial_conjuncts_are (length graph) graph c.knows.ensures.sound c.args.question.now)
