use Rattle.cd_model.specs.StandsFor.{StandsFor}
use Rattle.cd_model.specs.Written.{Written}
use Rattle.cd_graph.specs.Nodes.{nodes}
use Rattle.cd_member.specs.MemberAnswer.{DocumentAnswer, document_refused}
use Rattle.cd_replies.proofs.TwoFiles.{no_document}
use Rattle.cd_member.proofs.with_type.Goals as goal

pub returns-in-Err : goal.returns-in-Err
returns-in-Err g c =
    no_document (λ disk reply. (type : Written) → StandsFor (nodes c.args.graph.now) c.args.id type → DocumentAnswer disk c.args.document.now type reply)
    _ _ c.args.document.now c.in-Err.error (rw c.in-Err.is at c.read_file.ensures) c.no_text.result c.no_text.ensures
    (λ disk reply refusal type stands. document_refused reply refusal)
