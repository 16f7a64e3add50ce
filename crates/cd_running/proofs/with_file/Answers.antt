use Rattle.std.proofs.Common.{sym, subst}
use Rattle.cd_program.specs.Expr.{Program}
use Rattle.cd_replies.specs.Disk.{HasText, refused}
use Rattle.cd_replies.specs.Reply.{refusal}
use Rattle.cd_replies.specs.Texts.{ReadsAsProgram, RefusesProgram}
use Rattle.cd_replies.proofs.TwoFiles.{refused_at_once}
use Rattle.cd_running.specs.RunAnswer.{RunAnswer, file_refused}
use Rattle.cd_running.proofs.with_file.Goals as goal

-- the text reads as the program
pub resolved-requires-clause-read : goal.resolved-requires-clause-read
resolved-requires-clause-read g c = (c.args.text.now, c.in-Ok.ensures.read)

pub with_program-requires-clause-reads : goal.with_program-requires-clause-reads
with_program-requires-clause-reads g c =
    subst (λ (program : Program). ReadsAsProgram c.args.text.now program) (sym c.in_ok-program.ensures.program) c.in-Ok.ensures.read

-- or it is refused
pub returns-in-Err : goal.returns-in-Err
returns-in-Err g c =
    let file = c.args.file.now in
    let text = c.args.text.now in
    refused_at_once (λ disk reply. HasText disk file text → RunAnswer disk c.args.units file c.args.document.now reply)
    _ c.args.document.now file text c.in-Err.error (RefusesProgram text) c.in-Err.ensures.refused c.refused.result c.refused.ensures
    (λ found stands disk has. file_refused (refusal file text found) (refused text has found stands))
