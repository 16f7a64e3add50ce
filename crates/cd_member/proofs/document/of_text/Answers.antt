use Rattle.cd_cells.specs.Cells.{thing_at}
use Rattle.cd_cells.specs.Table.{table}
use Rattle.cd_graph.specs.Nodes.{nodes}
use Rattle.cd_replies.proofs.DocumentsRead.{writes_data, writes_value}
use Rattle.cd_member.proofs.Documents.{document_is_refused, document_is_answered}
use Rattle.cd_member.proofs.document.of_text.Goals as goal

-- the value of a document is data
pub holds-requires-clause-data : goal.holds-requires-clause-data
holds-requires-clause-data c =
    writes_data c.args.text.now (thing_at (table c.read_document.new.values) c.in-Ok.id.0) c.in-Ok.ensures.read

pub returns-in-Ok : goal.returns-in-Ok
returns-in-Ok c =
    let v = thing_at (table c.read_document.new.values) c.in-Ok.id.0 in
    let writes = c.in-Ok.ensures.read in
    document_is_answered c.args.document.now c.args.text.now (nodes c.args.graph.now) c.args.node v writes
    (writes_value c.args.text.now v c.utf8.text writes) c.in_ok-holds-in-Ok.field-0 c.in_ok-holds-in-Ok.ensures c.yes_or_no.result c.yes_or_no.ensures

pub returns : goal.returns
returns c =
    document_is_refused c.args.document.now c.args.text.now (nodes c.args.graph.now) c.args.node c.in-Err.error c.in-Err.ensures.refused
    c.refused.result c.refused.ensures
