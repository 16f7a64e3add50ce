use Rattle.std.proofs.Common.{subst}
use Rattle.std.specs.Prelude.{IfOk}
use Rattle.cd_program.specs.Expr.{Program}
use Rattle.cd_replies.specs.Message.{reply_of}
use Rattle.cd_checking.specs.CheckAnswer.{ProgramAnswer}
use Rattle.cd_checking.proofs.of_program.Goals as goal

pub resolved-requires-clause-read : goal.resolved-requires-clause-read
resolved-requires-clause-read c = (c.args.text.now, c.requires.reads)

pub returns : goal.returns
returns c =
    subst (λ (program : Program). IfOk c.of_resolved.result (λ message. ProgramAnswer c.args.file.now c.args.text.now program (reply_of message)))
    c.in_ok-program.ensures.program c.of_resolved.ensures
