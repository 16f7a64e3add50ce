use Rattle.std.proofs.Common.{◌≡◌, ◌+◌, ◌∙◌, ap, sym, drop, drop_of_length-le, true, false, None, subst}
use Rattle.cd_model.specs.Formula.{AreRisingLabels}
use Rattle.cd_graph.specs.PlainFormula.{plain_named}
use Rattle.cd_facts.specs.declared.finding.Finding.{Finding}
use Rattle.cd_facts.specs.declared.finding.Finding.TheVariants.{Known, Unknown}
use Rattle.cd_facts.specs.Inner.Known.{known}
use Rattle.cd_facts.specs.Inner.Finding.{both}
use Rattle.cd_facts.proofs.RisingLabels.{from_rises}
use Rattle.cd_facts.proofs.FieldsInTurn.{in_turn, next_field, at_named_labels}
use Rattle.cd_facts.proofs.facts_of_parts.at_named.Goals as goal
use Rattle.cd_facts.proofs.facts_of_parts.at_named.Goals.{After-at_field}

-- what is found at the next field, and then at the others
found_next : (c : After-at_field) (finding : Finding) → c.at_field.result ≡ finding
    → both finding (in_turn (known c.args.facts.now) c.from_label-left.result.now
    (plain_named (drop (c.loop-label.label-index + 1) c.items-label-items.result.now)))
    ≡ in_turn (known c.args.facts.now) c.args.parts.now (plain_named c.args.fields.now.named)
found_next c finding is =
    next_field (known c.args.facts.now) c.loop-label.left.now c.from_label-left.result.now c.items-label-items.result.now
    c.loop-label.label-index c.loop-label-item.result c.copied.result finding
    (in_turn (known c.args.facts.now) c.args.parts.now (plain_named c.args.fields.now.named)) c.loop-label.invariant.0
    (subst (λ fields. AreRisingLabels None (plain_named fields)) (sym c.items-label-items.ensures.value)
    c.items-label-items.ensures.rising) c.loop-label-item.is c.loop-label-test.true c.from_label-left.ensures
    (c.copied.ensures ∙ c.first_at.ensures) (sym is ∙ c.at_field.ensures) c.loop-label.invariant.1

pub returns-in-Known-false : goal.returns-in-Known-false
returns-in-Known-false c =
    found_next (goal.at.returns-in-Known-false c).After-at_field (Known false)
    (c.in-Known-false.is ∙ ap Known c.in-Known-false.field-0-test)
    ∙ at_named_labels (known c.args.facts.now) c.args.parts.now (plain_named c.args.fields.now.named) c.args.fields.now.rest
    c.items-label-items.ensures.rising

pub returns-in-Unknown : goal.returns-in-Unknown
returns-in-Unknown c =
    found_next (goal.at.returns-in-Unknown c).After-at_field (Unknown c.in-Unknown.id c.in-Unknown.node) c.in-Unknown.is
    ∙ at_named_labels (known c.args.facts.now) c.args.parts.now (plain_named c.args.fields.now.named) c.args.fields.now.rest
    c.items-label-items.ensures.rising

pub loop-label-preserved : goal.loop-label-preserved
loop-label-preserved c = (
  subst (AreRisingLabels None) (sym c.from_label-left.ensures)
      (from_rises c.loop-label-item.result.0 c.loop-label.left.now c.loop-label.invariant.0),
  found_next (goal.at.loop-label-preserved c).After-at_field (Known true)
      (c.in-Known-true.is ∙ ap Known c.in-Known-true.field-0-test),
)

-- no field is left
pub returns : goal.returns
returns c =
    sym (ap (λ fields. in_turn (known c.args.facts.now) c.loop-label.left.now (plain_named fields))
    (drop_of_length-le c.items-label-items.result.now c.loop-label-test.false)) ∙ c.loop-label.invariant.1
    ∙ at_named_labels (known c.args.facts.now) c.args.parts.now (plain_named c.args.fields.now.named) c.args.fields.now.rest
    c.items-label-items.ensures.rising
