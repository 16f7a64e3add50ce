use Rattle.std.proofs.Common.{◌≡◌, ◌∙◌, ap, sym, true, false}
use Rattle.cd_graph.specs.PlainFormula.{plain_named}
use Rattle.cd_facts.specs.declared.finding.Finding.{Finding}
use Rattle.cd_facts.specs.declared.finding.Finding.TheVariants.{Known, Unknown}
use Rattle.cd_facts.specs.Inner.Known.{known}
use Rattle.cd_facts.specs.Inner.Finding.{both, labels, finding_at_labels, finding_at_others}
use Rattle.cd_facts.proofs.FieldsInTurn.{both_in_turn, others_plain}
use Rattle.cd_facts.proofs.facts_of_parts.at_fields.Goals as goal
use Rattle.cd_facts.proofs.facts_of_parts.at_fields.Goals.{After-at_named}

-- what is found at the labels that the type names decides, or else what is found at the others
found_first : (c : After-at_named) (finding : Finding) → c.at_named.result ≡ finding
    → both finding (finding_at_others (known c.args.facts.now) c.args.fields.now.named c.args.fields.now.rest c.args.parts.now)
    ≡ finding_at_labels (known c.args.facts.now) c.args.parts.now (plain_named c.args.fields.now.named) c.args.fields.now.rest
    (labels (plain_named c.args.fields.now.named) c.args.parts.now)
found_first c finding is =
    both_in_turn (known c.args.facts.now) c.args.parts.now (plain_named c.args.fields.now.named) c.args.fields.now.rest finding
    (finding_at_others (known c.args.facts.now) c.args.fields.now.named c.args.fields.now.rest c.args.parts.now)
    c.requires (sym is ∙ c.at_named.ensures)
    (others_plain (known c.args.facts.now) c.args.fields.now.named c.args.fields.now.rest c.args.parts.now)

pub returns-in-Known-true : goal.returns-in-Known-true
returns-in-Known-true c = c.at_others.ensures
    ∙ found_first (goal.at.returns-in-Known-true c).After-at_named (Known true)
    (c.in-Known-true.is ∙ ap Known c.in-Known-true.field-0-test)

pub returns-in-Known-false : goal.returns-in-Known-false
returns-in-Known-false c =
    found_first (goal.at.returns-in-Known-false c).After-at_named (Known false)
    (c.in-Known-false.is ∙ ap Known c.in-Known-false.field-0-test)

pub returns-in-Unknown : goal.returns-in-Unknown
returns-in-Unknown c =
    found_first (goal.at.returns-in-Unknown c).After-at_named (Unknown c.in-Unknown.id c.in-Unknown.node) c.in-Unknown.is
