use Rattle.std.proofs.Common.{◌∙◌, ap, refl, ◌∷◌}
use Rattle.cd_documents.specs.Terminal.{CloseSequence}
use Rattle.cd_cells.proofs.GrownTables.{itself}
use Rattle.cd_notation.proofs.Growth.{items_grown, open_grown}
use Rattle.cd_notation.proofs.Stepping.{lead_none, no_sequence, no_head, head_is, over_top_sequence, ends_sequence, forms_at}
use Rattle.cd_notation.proofs.Closing.{can_close}
use Rattle.cd_notation.proofs.reader.Reader.close_sequence.Goals as goal

pub returns-in_default-clause-leads : goal.returns-in_default-clause-leads
returns-in_default-clause-leads c = λ trees are. lead_none _ _ _ (no_sequence _ _ _ _ _ trees are (λ from rest is. absurd (no_head _ _ _ c.in_default.ensures is)) CloseSequence)

pub returns-in_default-form : goal.returns-in_default-form
returns-in_default-form c = record {
  leads = λ trees are.
      lead_none _ _ _ (no_sequence _ _ _ _ _ trees are (λ from rest is. c.in_default-form.not-Sequence from (head_is _ _ _ _ _ c.in-Some.ensures.1 is)) CloseSequence);
  grows = itself _;
}

pub close-requires-clause-forms : goal.close-requires-clause-forms
close-requires-clause-forms c =
    let top = over_top_sequence _ _ _ _ _ _ _ _ (c.in-Some.ensures.1 ∙ ap (λ one. one ∷ c.in-Some.ensures.0) c.in-Sequence.is) c.requires.forms.1 in
    can_close _ _ _ _ _ _ _ _ _ _ c.in_ok-nil.ensures.grows (c.drop_top.ensures _ _ c.in-Some.ensures.1) refl refl top.has top.others

pub returns-clause-leads : goal.returns-clause-leads
returns-clause-leads c = λ trees are.
    let top = over_top_sequence _ _ _ _ _ _ _ _ (c.in-Some.ensures.1 ∙ ap (λ one. one ∷ c.in-Some.ensures.0) c.in-Sequence.is) are in
    ends_sequence _ _ _ _ _ _ top.is
    (c.in_ok-close.ensures.leads _ _ _ _ (items_grown _ _ c.in_ok-nil.ensures.grows _ _ _ _ top.has) c.in_ok-nil.ensures.is
    (forms_at _ _ _ _ _ _ _ (c.drop_top.ensures _ _ c.in-Some.ensures.1) (open_grown _ _ c.in_ok-nil.ensures.grows _ _ _ _ top.others)))
