-- The text of a document of the workload is ASCII, so its bytes are its characters.
use Rattle.std.proofs.Common.{◌≡◌, ℕ, zero, suc, ◌+◌, ◌%◌, ◌≤◌, ◌++◌, map, refl, arith}
use Rattle.std.specs.Prelude.{codes}
use Rattle.std.specs.Fmt.{decimal}
use Rattle.std.specs.Str.{chars, IsAscii}
use Rattle.std.proofs.lemmas.Fmt.{IsAscii-decimal_wide}
use Rattle.std.proofs.lemmas.Str.{chars-IsAscii}
use Rattle.cd_model.specs.AllOf.{AllOf}
use Rattle.cd_running.specs.Workload.{numbers, spaced, entry_text, entry_texts, document_text}
use Rattle.cd_running.proofs.AsciiTexts.{known_ascii, between_ascii, spaced_ascii}

number_ascii : (number : ℕ) → number ≤ 100001 → IsAscii (decimal number)
number_ascii number small = IsAscii-decimal_wide number (omega arith)

-- the numbers in an entry, whatever is left of its own
numbers_ascii : (left number : ℕ) → number ≤ 100000 → AllOf IsAscii (map decimal (numbers left number))
numbers_ascii zero number small = tt
numbers_ascii (suc zero) number small = (number_ascii number (omega arith), tt)
numbers_ascii (suc (suc left)) number small = (number_ascii number (omega arith), (number_ascii (suc number) (omega arith), tt))

entry_ascii : (number : ℕ) → number ≤ 100000 → IsAscii (entry_text number)
entry_ascii number small =
    let held = map decimal (numbers (number % 3) number) in
    between_ascii (codes "<e n=" ++ decimal number ++ codes ">[") (spaced held) (codes "]")
    (between_ascii (codes "<e n=") (decimal number) (codes ">[") (known_ascii (codes "<e n=") refl) (number_ascii number (omega arith)) (known_ascii (codes ">[") refl))
    (spaced_ascii held (numbers_ascii (number % 3) number small)) (known_ascii (codes "]") refl)

entries_ascii : (first count : ℕ) → first + count ≤ 100000 → AllOf IsAscii (entry_texts first count)
entries_ascii first zero small = tt
entries_ascii first (suc count) small = (entry_ascii first (omega arith), entries_ascii (suc first) count (omega arith))

document_ascii : (size : ℕ) → size ≤ 100000 → IsAscii (document_text size)
document_ascii size small =
    between_ascii (codes "<log>[") (spaced (entry_texts zero size)) (codes "]") (known_ascii (codes "<log>[") refl)
    (spaced_ascii (entry_texts zero size) (entries_ascii zero size (omega arith))) (known_ascii (codes "]") refl)

pub document_characters : (size : ℕ) → size ≤ 100000 → chars (document_text size) ≡ document_text size
document_characters size small = chars-IsAscii (document_text size) (document_ascii size small)
