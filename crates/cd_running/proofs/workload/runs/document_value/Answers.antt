use Rattle.std.proofs.Common.{◌≡◌, ◌∙◌, subst, List, ℕ}
use Rattle.std.specs.Str.{chars}
use Rattle.cd_cells.specs.Cells.{thing_at}
use Rattle.cd_cells.specs.Table.{table}
use Rattle.cd_documents.specs.Reading.{WritesValue}
use Rattle.cd_replies.specs.Documents.{RefusesDocument}
use Rattle.cd_running.specs.Workload.{document_text}
use Rattle.cd_running.proofs.DocumentWrites.{one_document, document_is_not_refused}
use Rattle.cd_running.proofs.workload.runs.document_value.Goals as goal

-- the text stands for a value
pub unreachable-requires : goal.unreachable-requires
unreachable-requires c =
    let text : c.as_str.result.now ≡ document_text c.args.size = c.as_str.ensures.value ∙ c.in_ok-text.ensures in
    document_is_not_refused c.args.size c.requires.most c.in-Err-Refused.field-0-0
    (subst (λ (text : List ℕ). RefusesDocument text c.in-Err-Refused.field-0-0) text
    (rw (c.in-Err-Refused.is, c.in-Err-Refused.field-0-is) at c.read_document.ensures.refused))

-- which is this one
pub returns-in-Ok-clause-is : goal.returns-in-Ok-clause-is
returns-in-Ok-clause-is c =
    let v = thing_at (table c.read_document.new.values) c.in-Ok.value.0 in
    let text : c.as_str.result.now ≡ document_text c.args.size = c.as_str.ensures.value ∙ c.in_ok-text.ensures in
    one_document c.args.size c.requires.most v
    (subst (λ (text : List ℕ). WritesValue (chars text) v) text c.in-Ok.ensures.read)
