use Rattle.std.proofs.Common.{sym, subst}
use Rattle.cd_graph.specs.PlainFormula.{plain_named}
use Rattle.cd_elements.specs.Elements.{table}
use Rattle.cd_facts.specs.Inner.Known.{known}
use Rattle.cd_facts.specs.Inner.Finding.{AsksPart}
use Rattle.cd_facts.proofs.FactsKept.{found_right_of_type}
use Rattle.cd_facts.proofs.UnknownParts.{type_asks}
use Rattle.cd_facts.proofs.search.finding_of_type.Goals as goal

pub returns-clause-right : goal.returns-clause-right
returns-clause-right c = λ graph right.
    found_right_of_type graph (table c.args.elements.now) c.args.facts.now c.args.id c.shape.result.now
    (plain_named c.args.fields.now.named) c.args.fields.now.rest c.at_record.result right c.shape.ensures.element
    c.at_record.ensures

pub returns-clause-asks : goal.returns-clause-asks
returns-clause-asks c = λ size within.
    subst (AsksPart (known c.args.facts.now) c.args.id.0 size) (sym c.at_record.ensures)
    (type_asks (known c.args.facts.now) c.args.id.0 size c.shape.result.now (plain_named c.args.fields.now.named)
    c.args.fields.now.rest c.shape.ensures.before within.0 within.1)
