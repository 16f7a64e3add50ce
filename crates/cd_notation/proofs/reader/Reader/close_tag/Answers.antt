use Rattle.std.proofs.Common.{◌∙◌, ap, ◌∷◌}
use Rattle.cd_notation.specs.declared.form.OpenForm.TheVariants.{Content}
use Rattle.cd_cells.proofs.GrownTables.{itself, at_grown}
use Rattle.cd_notation.proofs.Growth.{open_grown}
use Rattle.cd_notation.proofs.Stepping.{lead_none, no_tag, no_head, head_is, over_top_tag, leads_by}
use Rattle.cd_notation.proofs.Closing.{ends_tag}
use Rattle.cd_notation.proofs.reader.Reader.close_tag.Goals as goal

pub returns-in_default-clause-leads : goal.returns-in_default-clause-leads
returns-in_default-clause-leads c = λ trees are. lead_none _ _ _ (no_tag _ _ _ _ _ trees are (λ tag first from rest is. absurd (no_head _ _ _ c.in_default.ensures is)))

pub returns-in_default-form : goal.returns-in_default-form
returns-in_default-form c = record {
  leads = λ trees are.
      lead_none _ _ _ (no_tag _ _ _ _ _ trees are (λ tag first from rest is. c.in_default-form.not-Tag tag first from (head_is _ _ _ _ _ c.in-Some.ensures.1 is)));
  grows = itself _;
}

pub take_record-requires : goal.take_record-requires
take_record-requires c =
    let top = over_top_tag _ _ _ _ _ _ _ _ _ _ (c.in-Some.ensures.1 ∙ ap (λ one. one ∷ c.in-Some.ensures.0) c.in-Tag.is) c.requires.forms.1 in
    record { below_numbers = top.below_numbers; below = top.below; named = top.labels; all = top.values; labels = top.named; items = top.has }

pub returns-clause-leads : goal.returns-clause-leads
returns-clause-leads c = λ trees are.
    let top = over_top_tag _ _ _ _ _ _ _ _ _ _ (c.in-Some.ensures.1 ∙ ap (λ one. one ∷ c.in-Some.ensures.0) c.in-Tag.is) are in
    let got = c.in_ok-id.ensures.is _ _ _ _ top.named top.has in
    let rest = c.in_ok-id.ensures.forms ∙ c.drop_top.ensures _ _ c.in-Some.ensures.1 in
    leads_by _ _ _ _ _ _ _ (c.in_ok-push.ensures.added ∙ ap (λ forms. Content c.in-Tag.tag c.in_ok-id.id ∷ forms) rest) got.items got.labels
    (ends_tag _ _ _ _ _ _ _ _ _ _ _ top.is (at_grown _ _ c.in_ok-id.ensures.grows _ _ top.at) got.at (open_grown _ _ c.in_ok-id.ensures.grows _ _ _ _ top.others))
