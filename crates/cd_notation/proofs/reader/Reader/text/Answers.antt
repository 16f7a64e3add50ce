use Rattle.cd_documents.specs.Document.{the_nil}
use Rattle.cd_cells.proofs.GrownTables.{further}
use Rattle.cd_notation.proofs.Growth.{open_grown}
use Rattle.cd_notation.proofs.reader.Reader.text.Goals as goal

pub text_before-requires : goal.text_before-requires
text_before-requires c = c.in_ok-nil.ensures.is.within

pub put-requires-clause-within : goal.put-requires-clause-within
put-requires-clause-within c = (c.in_ok-id.ensures.pairs the_nil c.in_ok-nil.ensures.is).within

pub put-requires-clause-forms : goal.put-requires-clause-forms
put-requires-clause-forms c =
    (c.requires.forms.0, open_grown _ _ (further _ _ _ c.in_ok-nil.ensures.grows c.in_ok-id.ensures.grows) _ _ _ _ c.requires.forms.1)

pub returns-clause-leads : goal.returns-clause-leads
returns-clause-leads c = λ trees are.
    c.in_ok-put.ensures.stands _ trees (c.in_ok-id.ensures.pairs the_nil c.in_ok-nil.ensures.is)
    (open_grown _ _ (further _ _ _ c.in_ok-nil.ensures.grows c.in_ok-id.ensures.grows) _ _ _ trees are)
