use Rattle.std.proofs.Common.{length, sym, subst}
use Rattle.cd_graph.specs.Nodes.{nodes}
use Rattle.cd_graph.specs.PlainFormula.{plain}
use Rattle.cd_elements.specs.Elements.{table}
use Rattle.cd_facts.specs.Inner.Known.{known}
use Rattle.cd_facts.specs.Inner.Finding.{AsksPart}
use Rattle.cd_facts.proofs.FactsKept.{found_right}
use Rattle.cd_facts.proofs.UnknownParts.{finding_asks}
use Rattle.cd_facts.proofs.search.finding.Goals as goal

pub returns-clause-right : goal.returns-clause-right
returns-clause-right c =
    found_right (nodes c.args.graph.now) (table c.args.elements.now) c.args.facts.now c.args.asked.id c.args.asked.node
    c.shape.result.now (plain c.formula.result.now) c.finding_of.result c.requires.right c.shape.ensures.element
    c.formula.ensures.formula c.finding_of.ensures

pub returns-clause-asks : goal.returns-clause-asks
returns-clause-asks c =
    let size = length (nodes c.args.graph.now) in
    subst (AsksPart (known c.args.facts.now) c.args.asked.id.0 size) (sym c.finding_of.ensures)
    (finding_asks (known c.args.facts.now) c.args.asked.id.0 size c.shape.result.now (plain c.formula.result.now)
    c.shape.ensures.before c.formula.ensures.sound)
