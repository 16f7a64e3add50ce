-- The words that are left after one, without those that begin with it.
use Rattle.std.proofs.Common.{◌≡◌, ◌∙◌, ap, refl, ℕ, zero, suc, ◌+◌, ◌-◌, ◌<◌, ◌==◌, true, false, not, ◌&&◌, List, [], ◌∷◌, ◌++◌, map, arith}
use Rattle.std.proofs.lemmas.Bool.Decides.{nat_tests}
use Rattle.std.proofs.lemmas.List.Elements.{filter-append}
use Rattle.cd_tasks.specs.Assignments.{Word, each_side, all_words, begins_with, without_those_from}
use Rattle.cd_tasks.specs.Inner.AfterWords.{below, later, after}
use Rattle.cd_tasks.proofs.PartsOfLists.{filter_of_map, filter_all, filter_none}

without_both : (word : Word) (words more : List Word)
    → without_those_from word (words ++ more) ≡ without_those_from word words ++ without_those_from word more
without_both word words more = filter-append (λ longer. not (begins_with word longer)) words more

-- with a side before all of them
without_ahead : (side : ℕ) (word : Word) (words : List Word)
    → without_those_from (side ∷ word) (map (λ longer. side ∷ longer) words) ≡ map (λ longer. side ∷ longer) (without_those_from word words)
without_ahead side word words =
    let same : (side == side) ≡ true = grind (arith, nat_tests) in
    filter_of_map (λ longer. not (begins_with (side ∷ word) longer)) (λ longer. not (begins_with word longer)) (λ longer. side ∷ longer)
    (λ longer. ap (λ is. not (is && begins_with word longer)) same) words

-- with another side before them
without_other : (side : ℕ) (word : Word) (first : ℕ) (words : List Word) → (side == first) ≡ false
    → without_those_from (side ∷ word) (map (λ longer. first ∷ longer) words) ≡ map (λ longer. first ∷ longer) words
without_other side word first words other =
    filter_of_map (λ longer. not (begins_with (side ∷ word) longer)) (λ longer. true) (λ longer. first ∷ longer)
    (λ longer. ap (λ is. not (is && begins_with word longer)) other) words
    ∙ ap (map (λ (longer : Word). first ∷ longer)) (filter_all (λ longer. true) (λ longer. refl) words)

without_sides : (side : ℕ) (word : Word) (first count : ℕ) (words : List Word) → side < first
    → without_those_from (side ∷ word) (each_side first count words) ≡ each_side first count words
without_sides side word first zero words less = refl
without_sides side word first (suc count) words less =
    let other : (side == first) ≡ false = grind (arith, nat_tests) in
    let front = map (λ (longer : Word). first ∷ longer) words in
    let rest = each_side (first + 1) count words in
    without_both (side ∷ word) front rest
    ∙ ap (λ (kept : List Word). kept ++ without_those_from (side ∷ word) rest) (without_other side word first words other)
    ∙ ap (λ (kept : List Word). front ++ kept) (without_sides side word (first + 1) count words (omega arith))

-- none that is later begins with the word
pub without_later : (last members : ℕ) (word : Word) → without_those_from word (later last members word) ≡ later last members word
without_later last members [] = refl
without_later last zero (side ∷ word) = refl
without_later last (suc members) (side ∷ word) =
    let front = map (λ (longer : Word). side ∷ longer) (later last members word) in
    let rest = each_side (side + 1) (last - side) (all_words (suc last) members) in
    without_both (side ∷ word) front rest
    ∙ ap (λ (kept : List Word). kept ++ without_those_from (side ∷ word) rest)
    (without_ahead side word (later last members word) ∙ ap (map (λ (longer : Word). side ∷ longer)) (without_later last members word))
    ∙ ap (λ (kept : List Word). front ++ kept)
    (without_sides side word (side + 1) (last - side) (all_words (suc last) members) (omega arith))

-- all that are below do
without_below : (last members : ℕ) (word : Word) → without_those_from word (below last members word) ≡ []
without_below last zero word = refl
without_below last (suc members) [] =
    filter_none (λ longer. not (begins_with [] longer)) (λ longer. refl) (each_side 0 (suc last) (all_words (suc last) members))
without_below last (suc members) (side ∷ word) =
    without_ahead side word (below last members word) ∙ ap (map (λ (longer : Word). side ∷ longer)) (without_below last members word)

pub without_after : (last members : ℕ) (word : Word) → without_those_from word (after last members word) ≡ later last members word
without_after last members word =
    without_both word (below last members word) (later last members word)
    ∙ ap (λ (kept : List Word). kept ++ without_those_from word (later last members word)) (without_below last members word)
    ∙ without_later last members word
