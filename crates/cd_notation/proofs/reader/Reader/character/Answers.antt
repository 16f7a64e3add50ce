use Rattle.std.proofs.Common.{◌∙◌, sym}
use Rattle.cd_notation.proofs.Growth.{open_grown}
use Rattle.cd_notation.proofs.Stepping.{one_letter, lead_some}
use Rattle.cd_notation.proofs.reader.Reader.character.Goals as goal

pub put-requires-clause-forms : goal.put-requires-clause-forms
put-requires-clause-forms c = (c.requires.forms.0, open_grown _ _ c.in_ok-id.ensures.grows _ _ _ _ c.requires.forms.1)

pub returns-clause-leads : goal.returns-clause-leads
returns-clause-leads c = λ trees are.
    lead_some _ _ _ _ _ (one_letter trees _ _ (sym c.only_character.ensures ∙ c.in-Some.is))
    (c.in_ok-put.ensures.stands _ trees c.in_ok-id.ensures.is (open_grown _ _ c.in_ok-id.ensures.grows _ _ _ trees are))
