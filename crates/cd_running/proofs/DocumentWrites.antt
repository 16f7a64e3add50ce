-- The text of a document of the workload stands for that document alone, and is not refused.
use Rattle.std.proofs.Common.{◌≡◌, ◌∙◌, ℕ, ◌≤◌, sym, subst, arith}
use Rattle.std.specs.Str.{chars}
use Rattle.cd_model.specs.Thing.{Thing}
use Rattle.cd_documents.specs.Reading.{WritesValue}
use Rattle.cd_print.proofs.ReadBack.{read_back}
use Rattle.cd_replies.specs.Documents.{RefusesDocument}
use Rattle.cd_replies.specs.declared.refusal.Refusal.{Refusal}
use Rattle.cd_replies.proofs.OneDocument.{writes_one, writes_unrefused}
use Rattle.cd_running.specs.Workload.{document_text}
use Rattle.cd_running.specs.Inner.WorkValues.{document}
use Rattle.cd_running.proofs.DocumentAscii.{document_characters}
use Rattle.cd_running.proofs.DocumentBrackets.{document_has_few}
use Rattle.cd_running.proofs.DocumentCanonical.{document_canonical}
use Rattle.cd_running.proofs.DocumentIsValue.{document_is_value, document_is_data}

-- it is the canonical text of the document, which is read back
pub document_writes : (size : ℕ) → size ≤ 100000 → WritesValue (chars (document_text size)) (document size)
document_writes size small =
    subst (λ text. WritesValue text (document size)) (document_canonical size ∙ sym (document_characters size small))
    (read_back (document size) (document_is_value size small) (document_is_data size) (omega (arith, document_has_few size)))

pub one_document : (size : ℕ) → size ≤ 100000 → (v : Thing) → WritesValue (chars (document_text size)) v → v ≡ document size
one_document size small v writes = writes_one (document_text size) v (document size) writes (document_writes size small)

pub document_is_not_refused : (size : ℕ) → size ≤ 100000 → (found : Refusal) → RefusesDocument (document_text size) found → ⊥
document_is_not_refused size small = writes_unrefused (document_text size) (document size) (document_writes size small)
