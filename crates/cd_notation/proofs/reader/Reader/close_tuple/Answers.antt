use Rattle.std.proofs.Common.{◌∙◌, ap, refl, ◌∷◌, arith}
use Rattle.cd_cells.proofs.GrownTables.{itself}
use Rattle.cd_notation.proofs.Gathering.{first_at, none_of}
use Rattle.cd_notation.proofs.Stepping.{lead_none, no_tuple, no_head, head_is, over_top_tuple, ends_tuple, no_last, forms_at}
use Rattle.cd_notation.proofs.Closing.{can_close}
use Rattle.cd_notation.proofs.reader.Reader.close_tuple.Goals as goal

pub returns-in_default-clause-leads : goal.returns-in_default-clause-leads
returns-in_default-clause-leads c = λ trees are. lead_none _ _ _ (no_tuple _ _ _ _ _ trees are (λ from rest is. absurd (no_head _ _ _ c.in_default.ensures is)))

pub returns-in_default-form : goal.returns-in_default-form
returns-in_default-form c = record {
  leads = λ trees are.
      lead_none _ _ _ (no_tuple _ _ _ _ _ trees are (λ from rest is. c.in_default-form.not-Tuple from (head_is _ _ _ _ _ c.in-Some.ensures.1 is)));
  grows = itself _;
}

pub returns-then-len-from-clause-leads : goal.returns-then-len-from-clause-leads
returns-then-len-from-clause-leads c = λ trees are.
    let top = over_top_tuple _ _ _ _ _ _ _ _ (c.in-Some.ensures.1 ∙ ap (λ one. one ∷ c.in-Some.ensures.0) c.in-Tuple.is) are in
    lead_none _ _ _ (no_last _ _ _ top.is (none_of _ _ _ _ _ (omega (arith, c.if-len-from.true, c.len.ensures)) top.has).none)

pub close-requires-clause-forms : goal.close-requires-clause-forms
close-requires-clause-forms c =
    let top = over_top_tuple _ _ _ _ _ _ _ _ (c.in-Some.ensures.1 ∙ ap (λ one. one ∷ c.in-Some.ensures.0) c.in-Tuple.is) c.requires.forms.1 in
    let last = first_at _ _ _ _ _ _ _ (omega (arith, c.if-len-from.false, c.len.ensures)) c.in-Some-pop.ensures top.has in
    can_close _ _ _ _ _ _ _ _ _ _ (itself _) (c.drop_top.ensures _ _ c.in-Some.ensures.1) refl refl last.others top.others

pub close-requires-clause-end : goal.close-requires-clause-end
close-requires-clause-end c =
    let top = over_top_tuple _ _ _ _ _ _ _ _ (c.in-Some.ensures.1 ∙ ap (λ one. one ∷ c.in-Some.ensures.0) c.in-Tuple.is) c.requires.forms.1 in
    (first_at _ _ _ _ _ _ _ (omega (arith, c.if-len-from.false, c.len.ensures)) c.in-Some-pop.ensures top.has).at.within

pub returns-clause-leads : goal.returns-clause-leads
returns-clause-leads c = λ trees are.
    let top = over_top_tuple _ _ _ _ _ _ _ _ (c.in-Some.ensures.1 ∙ ap (λ one. one ∷ c.in-Some.ensures.0) c.in-Tuple.is) are in
    let last = first_at _ _ _ _ _ _ _ (omega (arith, c.if-len-from.false, c.len.ensures)) c.in-Some-pop.ensures top.has in
    ends_tuple _ _ _ _ _ _ _ _ top.is last.is
    (c.in_ok-close.ensures.leads _ _ _ _ last.others last.at (forms_at _ _ _ _ _ _ _ (c.drop_top.ensures _ _ c.in-Some.ensures.1) top.others))
