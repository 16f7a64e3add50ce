use Rattle.cd_resolved.specs.Resolved.{program_of}
use Rattle.cd_replies.proofs.TwoFiles.{no_document}
use Rattle.cd_running.specs.Inner.OnDocument.{OnDocument}
use Rattle.cd_running.specs.RunAnswer.{document_refused}
use Rattle.cd_running.proofs.with_types.Goals as goal

pub returns-in-Err : goal.returns-in-Err
returns-in-Err g c =
    let program = program_of c.args.program in
    no_document (OnDocument program c.args.units c.args.document.now)
    _ _ c.args.document.now c.in-Err.error (rw c.in-Err.is at c.read_file.ensures) c.no_text.result c.no_text.ensures
    (λ disk reply refusal file has. document_refused program has reply refusal)
