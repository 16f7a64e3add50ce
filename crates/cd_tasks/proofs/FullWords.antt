-- The full words of one member more are those of the others with each side before them.
use Rattle.std.proofs.Common.{◌≡◌, ◌∙◌, ap, refl, ℕ, zero, suc, ◌+◌, ◌==◌, false, cond, List, [], ◌∷◌, ◌++◌, map, length, arith}
use Rattle.std.proofs.lemmas.Bool.Decides.{nat_tests}
use Rattle.std.proofs.lemmas.List.Elements.{filter-append}
use Rattle.std.specs.List.{filter}
use Rattle.cd_tasks.specs.Assignments.{Word, each_side, all_words, full_words}
use Rattle.cd_tasks.proofs.PartsOfLists.{filter_of_map}

same_more : (n m : ℕ) → (suc n == suc m) ≡ (n == m)
same_more n m = grind (arith, nat_tests)

full_sides : (members first count : ℕ) (words : List Word)
    → filter (λ word. length word == suc members) (each_side first count words)
    ≡ each_side first count (filter (λ word. length word == members) words)
full_sides members first zero words = refl
full_sides members first (suc count) words =
    let rest = each_side (first + 1) count words in
    let full : List Word → List Word = filter (λ word. length word == suc members) in
    filter-append (λ (word : Word). length word == suc members) (map (λ word. first ∷ word) words) rest
    ∙ ap (λ (front : List Word). front ++ full rest)
    (filter_of_map (λ (word : Word). length word == suc members) (λ word. length word == members) (λ word. first ∷ word)
    (λ word. same_more (length word) members) words)
    ∙ ap (λ (more : List Word). map (λ word. first ∷ word) (filter (λ word. length word == members) words) ++ more)
    (full_sides members (first + 1) count words)

pub full_more : (sides members : ℕ) → full_words sides (suc members) ≡ each_side 0 sides (full_words sides members)
full_more sides members =
    let short : (0 == suc members) ≡ false = grind (arith, nat_tests) in
    let rest = filter (λ (word : Word). length word == suc members) (each_side 0 sides (all_words sides members)) in
    ap (λ full. cond full ([] ∷ rest) rest) short ∙ full_sides members 0 sides (all_words sides members)
