use Rattle.std.proofs.Common.{◌∙◌, sym, refl}
use Rattle.cd_notation.proofs.Stepping.{lead_none, none_label, no_label, leads_by, adds_label, refuses_label, forms_at}
use Rattle.cd_notation.proofs.reader.Reader.label.Goals as goal

pub returns-in_default-clause-leads : goal.returns-in_default-clause-leads
returns-in_default-clause-leads c = λ trees are. lead_none _ _ _ (none_label _ _ _ _ _ trees _ are c.in_default.ensures)

pub returns-in_default-first_label-clause-leads : goal.returns-in_default-first_label-clause-leads
returns-in_default-first_label-clause-leads c = λ trees are.
    lead_none _ _ _
    (no_label _ _ c.in-Some.form _ _ _ trees _ (forms_at _ _ _ _ _ _ _ (sym c.in-Some.ensures.1) are) (sym c.first_label.ensures ∙ c.in_default-first_label.is))

pub returns-then-branch-clause-leads : goal.returns-then-branch-clause-leads
returns-then-branch-clause-leads c = λ trees are.
    leads_by _ _ _ _ _ _ _ c.in-Some.ensures.1 refl refl
    (adds_label _ _ c.in-Some-first_label.first c.in_ok-number.number _ _ _ _ c.in_ok-number.ensures.grows
    record { sound = c.requires.label; is = c.in_ok-number.ensures.named } c.knows.ensures.once c.in-Some.form trees _
    (forms_at _ _ _ _ _ _ _ (sym c.in-Some.ensures.1) are) (sym c.first_label.ensures ∙ c.in-Some-first_label.is) (c.in_ok-add.ensures.fresh c.if-branch.true))

pub returns-clause-leads : goal.returns-clause-leads
returns-clause-leads c = λ trees are.
    lead_none _ _ _
    (refuses_label _ _ c.in-Some-first_label.first c.in_ok-number.number _ _ _ _ c.in_ok-number.ensures.grows
    record { sound = c.requires.label; is = c.in_ok-number.ensures.named } c.knows.ensures.once c.in-Some.form trees
    (forms_at _ _ _ _ _ _ _ (sym c.in-Some.ensures.1) are) (sym c.first_label.ensures ∙ c.in-Some-first_label.is) (c.in_ok-add.ensures.again c.if-branch.false))
