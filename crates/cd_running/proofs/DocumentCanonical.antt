-- The text of a document of the workload is its canonical text.
use Rattle.std.proofs.Common.{◌≡◌, ◌∙◌, ℕ, zero, suc, ◌%◌, List, [], ◌∷◌, ◌++◌, map, refl, ap, append_assoc, append-nil}
use Rattle.std.specs.Prelude.{codes}
use Rattle.std.specs.Fmt.{decimal}
use Rattle.cd_model.specs.Canonical.{Text, Other, canonical}
use Rattle.cd_running.specs.Workload.{numbers, spaced, entry_text, entry_texts, document_text}
use Rattle.cd_running.specs.Inner.WorkValues.{integer, held, entry, entries, document}
use Rattle.cd_running.proofs.SequenceTexts.{AreWritten, nothing, one, sequence_text_is}

-- numbers, and entries, have these texts
integers_written : (all : List ℕ) → AreWritten (map integer all) (map decimal all)
integers_written [] = nothing
integers_written (number ∷ all) = one (integer number) (decimal number) (map integer all) (map decimal all) refl (integers_written all)

-- the parts of an entry's text, put together in two ways
entry_joined : (number content : Text) → (((number ++ []) ++ codes ">") ++ (codes "[" ++ content ++ codes "]"))
    ≡ number ++ codes ">[" ++ content ++ codes "]"
entry_joined number content = simp (append-nil, append_assoc)

entry_written : (number : ℕ) → canonical (entry number) ≡ entry_text number
entry_written number =
    let all = numbers (number % 3) number in
    ap (λ content. codes "<e n=" ++ (decimal number ++ [] ++ codes ">" ++ content)) (sequence_text_is (held number) (map decimal all) (integers_written all))
    ∙ ap (λ rest. codes "<e n=" ++ rest) (entry_joined (decimal number) (spaced (map decimal all)))

entries_written : (first count : ℕ) → AreWritten (entries first count) (entry_texts first count)
entries_written first zero = nothing
entries_written first (suc count) =
    one (entry first) (entry_text first) (entries (suc first) count) (entry_texts (suc first) count) (ap Other (entry_written first))
    (entries_written (suc first) count)

pub document_canonical : (size : ℕ) → canonical (document size) ≡ document_text size
document_canonical size = ap (λ content. codes "<log>" ++ content) (sequence_text_is (entries zero size) (entry_texts zero size) (entries_written zero size))
