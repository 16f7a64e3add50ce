use Rattle.std.proofs.Common.{◌≡◌, ◌+◌, ◌∙◌, ap, sym, drop, true, false, None, subst}
use Rattle.cd_model.specs.Formula.{AreRisingLabels}
use Rattle.cd_facts.specs.declared.finding.Finding.{Finding}
use Rattle.cd_facts.specs.declared.finding.Finding.TheVariants.{Known, Unknown}
use Rattle.cd_facts.specs.Inner.Known.{known}
use Rattle.cd_facts.specs.Inner.Finding.{both, finding_at_others}
use Rattle.cd_facts.proofs.RisingLabels.{from_rises}
use Rattle.cd_facts.proofs.FieldsInTurn.{next_other, fields_rise}
use Rattle.cd_facts.proofs.facts_of_parts.at_others.Goals as goal
use Rattle.cd_facts.proofs.facts_of_parts.at_others.Goals.{After-at_other}

-- the fields rise
pub loop-label-init : goal.loop-label-init
loop-label-init c = (
  subst (AreRisingLabels None) (sym c.items-left.ensures.value)
      (fields_rise None c.args.fields.now.named c.items-left.ensures.rising),
  ap (λ fields. finding_at_others (known c.args.facts.now) fields c.args.fields.now.rest c.args.parts.now)
      c.items-left.ensures.value,
)

-- what is found at the next part, and then at the others
found_next : (c : After-at_other) (finding : Finding) → c.at_other.result ≡ finding
    → both finding (finding_at_others (known c.args.facts.now) c.from_label-left.result.now c.args.fields.now.rest
    (drop (c.loop-label.label-index + 1) c.args.parts.now))
    ≡ finding_at_others (known c.args.facts.now) c.args.fields.now.named c.args.fields.now.rest c.args.parts.now
found_next c finding is =
    next_other (known c.args.facts.now) c.loop-label.left.now c.from_label-left.result.now c.args.fields.now.rest
    c.args.parts.now c.loop-label.label-index c.loop-label-item.result _ finding
    (finding_at_others (known c.args.facts.now) c.args.fields.now.named c.args.fields.now.rest c.args.parts.now)
    c.loop-label.invariant.0 c.requires c.loop-label-item.is c.loop-label-test.true
    c.from_label-left.ensures c.first_at.ensures (sym is ∙ c.at_other.ensures) c.loop-label.invariant.1

pub returns-in-Known-false : goal.returns-in-Known-false
returns-in-Known-false c =
    found_next (goal.at.returns-in-Known-false c).After-at_other (Known false)
    (c.in-Known-false.is ∙ ap Known c.in-Known-false.field-0-test)

pub returns-in-Unknown : goal.returns-in-Unknown
returns-in-Unknown c =
    found_next (goal.at.returns-in-Unknown c).After-at_other (Unknown c.in-Unknown.id c.in-Unknown.node) c.in-Unknown.is

pub loop-label-preserved : goal.loop-label-preserved
loop-label-preserved c = (
  subst (AreRisingLabels None) (sym c.from_label-left.ensures)
      (from_rises c.loop-label-item.result.0 c.loop-label.left.now c.loop-label.invariant.0),
  found_next (goal.at.loop-label-preserved c).After-at_other (Known true)
      (c.in-Known-true.is ∙ ap Known c.in-Known-true.field-0-test),
)
