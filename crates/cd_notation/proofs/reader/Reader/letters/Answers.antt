use Rattle.std.proofs.Common.{◌∙◌, sym, ap, refl, ◌∷◌}
use Rattle.cd_documents.specs.Terminal.{Letters}
use Rattle.std.specs.Str.{chars}
use Rattle.cd_notation.proofs.Stepping.{no_sequence, no_head, head_is, leads_by, letters_in, lead_other, forms_at}
use Rattle.cd_notation.proofs.reader.Reader.letters.Goals as goal

pub returns-in_default-clause-leads : goal.returns-in_default-clause-leads
returns-in_default-clause-leads c = λ trees are.
    lead_other _ _ _ _ _ (no_sequence _ _ _ _ _ trees are (λ from rest is. absurd (no_head _ _ _ c.in_default.ensures is)) (Letters (chars c.args.name.now)))
    (c.in_ok-character.ensures.leads trees are)

pub returns-in_default-form : goal.returns-in_default-form
returns-in_default-form c = record {
  leads = λ trees are.
      lead_other _ _ _ _ _
      (no_sequence _ _ _ _ _ trees are (λ from rest is. c.in_default-form.not-Sequence from (head_is _ _ _ _ _ c.in-Some.ensures.1 is)) (Letters (chars c.args.name.now)))
      (c.in_ok-character-2.ensures.leads trees are);
  grows = c.in_ok-character-2.ensures.grows;
}

pub returns-clause-leads : goal.returns-clause-leads
returns-clause-leads c = λ trees are.
    let top = c.in-Some.ensures.1 ∙ ap (λ one. one ∷ c.in-Some.ensures.0) c.in-Sequence.is in
    leads_by _ _ _ _ _ _ _ top refl refl
    (letters_in _ _ _ _ _ _ _ trees _ (forms_at _ _ _ _ _ _ _ (sym top) are) c.in_ok-letters.ensures.grows c.in_ok-letters.ensures.letters)
