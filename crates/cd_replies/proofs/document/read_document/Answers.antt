use Rattle.std.proofs.lemmas.Result.{err_from_is_err_and}
use Rattle.cd_replies.proofs.DocumentsRead.{document_refused}
use Rattle.cd_replies.proofs.document.read_document.Goals as goal

-- the fault stands against the text
pub returns-in_err-id-clause-refused : goal.returns-in_err-id-clause-refused
returns-in_err-id-clause-refused c =
    let is = err_from_is_err_and c.from_residual.result c.from_residual.ensures.1 in
    rw (is.1, is.2) (document_refused c.args.text.now c.in_err-id.field-0.0 c.in_err-id.ensures.fault)
