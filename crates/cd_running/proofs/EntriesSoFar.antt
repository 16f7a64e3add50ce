-- The texts of entries in a row, and one more of them.
use Rattle.std.proofs.Common.{◌≡◌, ◌∙◌, ℕ, zero, suc, ◌+◌, ◌==◌, false, List, [], ◌++◌, refl, sym, ap, append_assoc, if◌then◌else◌, arith}
use Rattle.std.specs.Prelude.{codes}
use Rattle.std.proofs.lemmas.Bool.Decides.{nat_tests}
use Rattle.cd_running.specs.Workload.{spaced, entry_text, entry_texts}

-- what stands before the entry of a number
abbrev space_before : ℕ → List ℕ
space_before number = if number == 0 then [] else codes " "

later_space : (number : ℕ) → space_before (suc number) ≡ codes " "
later_space number =
    let later : (suc number == 0) ≡ false = grind (arith, nat_tests) in
    rw later refl

-- the entries so far, and the one after them
one_more : (first count : ℕ) → spaced (entry_texts first (suc count))
    ≡ spaced (entry_texts first count) ++ (space_before count ++ entry_text (first + count))
one_more first zero = ap entry_text (omega arith)
one_more first (suc zero) =
    append_assoc (entry_text first) (codes " ") (entry_text (suc first))
    ∙ ap (λ number. entry_text first ++ (codes " " ++ entry_text number)) (omega arith)
one_more first (suc (suc count)) =
    let front = entry_text first ++ codes " " in
    let rest = spaced (entry_texts (suc first) (suc count)) in
    ap (λ text. front ++ text) (one_more (suc first) (suc count))
    ∙ sym (append_assoc front rest (space_before (suc count) ++ entry_text (suc first + suc count)))
    ∙ ap (λ space. (front ++ rest) ++ (space ++ entry_text (suc first + suc count))) (later_space count ∙ sym (later_space (suc count)))
    ∙ ap (λ number. (front ++ rest) ++ (space_before (suc (suc count)) ++ entry_text number)) (omega arith)

-- a text that holds the entries so far, then with the space, and then with one more entry
pub entry_pushed : (before spaced_out after : List ℕ) (number : ℕ)
    → before ≡ codes "<log>[" ++ spaced (entry_texts 0 number)
    → spaced_out ≡ before ++ space_before number
    → after ≡ spaced_out ++ entry_text number
    → after ≡ codes "<log>[" ++ spaced (entry_texts 0 (number + 1))
entry_pushed before spaced_out after number so_far spaced_is after_is =
    let next : number + 1 ≡ suc number = omega arith in
    let here : 0 + number ≡ number = omega arith in
    let all = spaced (entry_texts 0 number) in
    let space = space_before number in
    let more : spaced (entry_texts 0 (suc number)) ≡ all ++ (space ++ entry_text number) = rw here at (one_more 0 number) in
    rw next (after_is ∙ ap (λ text. text ++ entry_text number) (spaced_is ∙ ap (λ text. text ++ space) so_far)
    ∙ append_assoc (codes "<log>[" ++ all) space (entry_text number) ∙ append_assoc (codes "<log>[") all (space ++ entry_text number)
    ∙ ap (λ text. codes "<log>[" ++ text) (sym more))
