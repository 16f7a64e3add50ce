use Rattle.std.proofs.Common.{length, arith}
use Rattle.cd_graph.specs.Nodes.{nodes}
use Rattle.cd_facts.proofs.FactsKept.{grown_on}
use Rattle.cd_facts.proofs.facts.Facts.is_in_type.Goals as goal

-- what has to be known first is a part of the element, and a node of the type
pub find_out-requires-clause-named : goal.find_out-requires-clause-named
find_out-requires-clause-named c =
    let asks = c.in-Unknown.ensures.asks (length (nodes c.args.graph.now)) c.requires.nodes in
    (omega (arith, asks.0, c.requires.id), asks.1)

pub find_out-requires-clause-unknown : goal.find_out-requires-clause-unknown
find_out-requires-clause-unknown c = (c.in-Unknown.ensures.asks (length (nodes c.args.graph.now)) c.requires.nodes).2

pub loop-answer-preserved : goal.loop-answer-preserved
loop-answer-preserved c = (
  c.find_out.ensures.right,
  grown_on c.args.self.now c.loop-answer.self c.find_out.new.facts c.loop-answer.invariant.1 c.find_out.ensures.grows,
)

-- what is known makes the finding right
pub returns-in-Known-clause-answer : goal.returns-in-Known-clause-answer
returns-in-Known-clause-answer c = c.in-Known.ensures.right (nodes c.args.graph.now) c.loop-answer.invariant.0

pub returns-in_err-find_out-in-Unknown-clause-grows : goal.returns-in_err-find_out-in-Unknown-clause-grows
returns-in_err-find_out-in-Unknown-clause-grows c =
    grown_on c.args.self.now c.loop-answer.self c.find_out.new.facts c.loop-answer.invariant.1 c.find_out.ensures.grows
