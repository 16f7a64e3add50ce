use Rattle.std.proofs.Common.{◌∙◌, sym}
use Rattle.cd_graph.specs.Nodes.{nodes}
use Rattle.cd_elements.specs.Elements.{table}
use Rattle.cd_facts.proofs.FactsKept.{facts_are_knowledge}
use Rattle.cd_facts.proofs.facts.Facts.is_in.Goals as goal

-- what is known is right
pub returns-in-Some-get-clause-answer : goal.returns-in-Some-get-clause-answer
returns-in-Some-get-clause-answer c =
    facts_are_knowledge (nodes c.args.graph.now) (table c.args.elements.now) c.args.self.now c.requires.right c.args.id c.args.node
    c.in-Some-get.answer (sym c.get.ensures ∙ c.in-Some-get.is)
