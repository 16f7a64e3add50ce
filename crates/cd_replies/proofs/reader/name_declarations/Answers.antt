use Rattle.std.proofs.lemmas.Result.{err_from_is_err_and}
use Rattle.cd_syntax.specs.PlainTree.{plain_declarations}
use Rattle.cd_replies.proofs.TextReading.{names_reported}
use Rattle.cd_replies.proofs.reader.name_declarations.Goals as goal

pub returns-in_err-batch-clause-refused : goal.returns-in_err-batch-clause-refused
returns-in_err-batch-clause-refused c =
    let is = err_from_is_err_and c.from_residual.result c.from_residual.ensures.1 in
    rw (is.1, is.2) (names_reported (plain_declarations c.args.declared.now) c.in_err-batch.field-0.0 c.in_err-batch.ensures.fault)
