-- What the text of a document stands for, and what is reported of it.
use Rattle.std.proofs.Common.{◌≡◌, true, ℕ, List, [], ◌∷◌}
use Rattle.std.specs.Char.{IsScalar}
use Rattle.std.specs.Str.{chars, IsUtf8}
use Rattle.std.proofs.lemmas.Bool.{and_parts}
use Rattle.std.proofs.lemmas.Str.{scalars-chars}
use Rattle.std.proofs.Math.Utf8.{scalar, scalars}
use Rattle.cd_model.specs.AllOf.{AllOf}
use Rattle.cd_model.specs.Thing.{Thing, IsData, IsValue}
use Rattle.cd_documents.proofs.DataRead.{is_data}
use Rattle.cd_documents.proofs.ValuesRead.{spelled_value}
use Rattle.cd_documents.specs.Reading.{WritesValue, most_open}
use Rattle.cd_notation.specs.Faulty.{IsFaultOf}
use Rattle.cd_notation.specs.Faulty as faulty
use Rattle.cd_syntax.specs.Faults.{IfFault}
use Rattle.cd_syntax.specs.declared.fault.TextError.{TextError}
use Rattle.cd_syntax.specs.declared.fault.TextFault.{TextFault}
use Rattle.cd_replies.specs.Bytes.{Bytes}
use Rattle.cd_replies.specs.Documents.{RefusesDocument, lexical, syntax, too_deep}
use Rattle.cd_replies.specs.Refusals.{IfRefused, of_text}
use Rattle.cd_replies.specs.declared.refusal.Refusal.TheVariants.{Text}
use Rattle.cd_replies.proofs.TextReading.{text_refused}

-- the value of a document is data, and a value of programs
pub writes_data : (text : Bytes) (v : Thing) → WritesValue (chars text) v → IsData v
writes_data text v writes = is_data most_open writes.tokens v writes.document

each_scalar : (cs : List ℕ) → scalars cs ≡ true → AllOf IsScalar cs
each_scalar [] is = tt
each_scalar (c ∷ cs) is =
    let parts = and_parts (scalar c) (scalars cs) is in
    (parts.0, each_scalar cs parts.1)

pub writes_value : (text : Bytes) (v : Thing) → IsUtf8 text → WritesValue (chars text) v → IsValue v
writes_value text v utf8 writes =
    spelled_value most_open (chars text) writes.tokens v (each_scalar (chars text) (scalars-chars text utf8)) writes.lexes writes.document

-- the fault of a document stands against its text
of_fault : (text : Bytes) (fault : TextFault) → IsFaultOf (chars text) fault → RefusesDocument text (Text fault)
of_fault text _ (faulty.lexical fault is) = lexical fault is
of_fault text _ (faulty.syntax place is) = syntax place is
of_fault text _ (faulty.too_deep place is) = too_deep place is

pub document_refused : (text : Bytes) (error : TextError) → IfFault error (IsFaultOf (chars text)) → IfRefused (of_text error) (RefusesDocument text)
document_refused text error is = text_refused error (IsFaultOf (chars text)) (RefusesDocument text) (of_fault text) is
