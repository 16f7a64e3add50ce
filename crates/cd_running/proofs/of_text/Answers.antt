use Rattle.cd_cells.specs.Cells.{thing_at}
use Rattle.cd_cells.specs.Table.{table}
use Rattle.cd_model.proofs.Closures.{data_are_elements}
use Rattle.cd_resolved.specs.Resolved.{program_of}
use Rattle.cd_replies.specs.Disk.{Disk, HasText, refused}
use Rattle.cd_replies.specs.Documents.{RefusesDocument}
use Rattle.cd_replies.specs.Reply.{refusal}
use Rattle.cd_replies.proofs.DocumentsRead.{writes_data, writes_value}
use Rattle.cd_replies.proofs.Messages.{refusal_replies}
use Rattle.cd_running.specs.Inner.OnDocument.{OnDocument}
use Rattle.cd_running.specs.RunAnswer.{document_refused}
use Rattle.cd_running.proofs.of_text.Goals as goal

-- the value of a document is data
pub of_value-requires-clause-document : goal.of_value-requires-clause-document
of_value-requires-clause-document c =
    let text = c.args.text.now in
    let v = thing_at (table c.read_document.new.values) c.in-Ok.value.0 in
    let writes = c.in-Ok.ensures.read in
    let plain = writes_data text v writes in
    record { element = data_are_elements v (writes_value text v c.utf8.text writes) plain; plain = plain }

-- or its text is refused
pub returns-in-Err : goal.returns-in-Err
returns-in-Err c =
    let document = c.args.document.now in
    let text = c.args.text.now in
    let program = program_of c.args.program in
    refusal_replies c.refused.result document text c.in-Err.error (RefusesDocument text)
    (λ reply. (disk : Disk) → HasText disk document text → OnDocument program c.args.units document disk reply) c.refused.ensures c.in-Err.ensures.refused
    (λ found stands disk has file typed. document_refused program typed (refusal document text found) (refused text has found stands))
