-- What is left after a word begins with the next one.
use Rattle.std.proofs.Common.{◌≡◌, ◌∙◌, sym, ap, refl, ℕ, zero, suc, ◌+◌, ◌-◌, ◌<◌, ◌≤◌, Bool, true, false, List, [], ◌∷◌, ◌++◌, map, length, Option, Some, None, nat_lt, if◌then◌else◌, append-nil, append_assoc, arith}
use Rattle.std.proofs.lemmas.Bool.{ltb-true, ltb-false}
use Rattle.std.proofs.lemmas.Bool.Decides.{nat_tests}
use Rattle.std.proofs.lemmas.List.{map-append}
use Rattle.cd_tasks.specs.Assignments.{Word, each_side, all_words}
use Rattle.cd_tasks.specs.Inner.AfterWords.{below, later, after, with_side, next_later, words_from, IsWithin}

first_is : (last members : ℕ) → all_words (suc last) members ≡ [] ∷ below last members []
first_is last zero = refl
first_is last (suc members) = refl

-- the word of no members is the first of all
pub from_first : (last members : ℕ) → all_words (suc last) members ≡ [] ∷ after last members []
from_first last members =
    first_is last members ∙ ap (λ (words : List Word). [] ∷ words) (sym (append-nil (below last members [])))

-- the words after one are those with its first side, and those of the other sides
after_ahead : (last members side : ℕ) (word : Word) → after last (suc members) (side ∷ word)
    ≡ map (λ longer. side ∷ longer) (after last members word) ++ each_side (side + 1) (last - side) (all_words (suc last) members)
after_ahead last members side word =
    let others = each_side (side + 1) (last - side) (all_words (suc last) members) in
    let ahead : List Word → List Word = map (λ longer. side ∷ longer) in
    sym (append_assoc (ahead (below last members word)) (ahead (later last members word)) others)
    ∙ ap (λ words. words ++ others) (sym (map-append (λ (longer : Word). side ∷ longer) (below last members word) (later last members word)))

-- the words of one more side begin with that side alone
from_side : (last members first count : ℕ) → each_side first (suc count) (all_words (suc last) members)
    ≡ (first ∷ []) ∷ (map (λ longer. first ∷ longer) (below last members [])
    ++ each_side (first + 1) count (all_words (suc last) members))
from_side last members first count =
    ap (λ (words : List Word). map (λ word. first ∷ word) words ++ each_side (first + 1) count (all_words (suc last) members))
    (first_is last members)

-- a word of fewer members is followed by the one that gives the first side to one member more
pub goes_below : (last members : ℕ) (word : Word) → length word < members
    → after last members word ≡ (word ++ 0 ∷ []) ∷ after last members (word ++ 0 ∷ [])
goes_below last zero word short = absurd (omega arith)
goes_below last (suc members) [] short =
    let none : last ≡ last - 0 = omega arith in
    append-nil (each_side 0 (suc last) (all_words (suc last) members)) ∙ from_side last members 0 last
    ∙ ap (λ (count : ℕ). (0 ∷ []) ∷ (map (λ longer. 0 ∷ longer) (below last members [])
    ++ each_side 1 count (all_words (suc last) members))) none
goes_below last (suc members) (side ∷ word) short =
    let others = each_side (side + 1) (last - side) (all_words (suc last) members) in
    after_ahead last members side word
    ∙ ap (λ (words : List Word). map (λ longer. side ∷ longer) words ++ others) (goes_below last members word (omega arith))
    ∙ ap (λ (words : List Word). (side ∷ (word ++ 0 ∷ [])) ∷ words) (sym (after_ahead last members side (word ++ 0 ∷ [])))

-- no word is longer than one of all members
pub nothing_below : (last members : ℕ) (word : Word) → members ≤ length word → below last members word ≡ []
nothing_below last zero word full = refl
nothing_below last (suc members) [] full = absurd (omega arith)
nothing_below last (suc members) (side ∷ word) full =
    ap (λ (words : List Word). map (λ longer. side ∷ longer) words) (nothing_below last members word (omega arith))

-- the words of the sides after one begin with the next side, if there is one
from_test : (last members side : ℕ) (less : Bool) → nat_lt side last ≡ less
    → each_side (side + 1) (last - side) (all_words (suc last) members)
    ≡ words_from last (suc members) (if less then Some ((side + 1) ∷ []) else None)
from_test last members side true is =
    let less = ltb-true side last is in
    let more : last - side ≡ suc (last - (side + 1)) = omega arith in
    ap (λ (count : ℕ). each_side (side + 1) count (all_words (suc last) members)) more
    ∙ from_side last members (side + 1) (last - (side + 1))
from_test last members side false is =
    let most = ltb-false side last is in
    let none : last - side ≡ 0 = omega arith in
    ap (λ (count : ℕ). each_side (side + 1) count (all_words (suc last) members)) none

from_next : (last members side : ℕ) (next : Option Word)
    → map (λ longer. side ∷ longer) (words_from last members next) ++ each_side (side + 1) (last - side) (all_words (suc last) members)
    ≡ words_from last (suc members) (with_side last side next)
from_next last members side (Some next) = ap (λ (words : List Word). (side ∷ next) ∷ words) (sym (after_ahead last members side next))
from_next last members side None = from_test last members side (nat_lt side last) refl

-- the words that are later begin with the next one
pub later_is : (last members : ℕ) (word : Word) → length word ≤ members
    → later last members word ≡ words_from last members (next_later last word)
later_is last members [] short = refl
later_is last zero (side ∷ word) short = absurd (omega arith)
later_is last (suc members) (side ∷ word) short =
    ap (λ (words : List Word). map (λ longer. side ∷ longer) words ++ each_side (side + 1) (last - side) (all_words (suc last) members))
    (later_is last members word (omega arith))
    ∙ from_next last members side (next_later last word)

short_by_test : (members side : ℕ) (less : Bool) → IsWithin (suc members) (if less then Some ((side + 1) ∷ []) else None)
short_by_test members side true = omega arith
short_by_test members side false = tt

short_with_side : (last members side : ℕ) (next : Option Word) → IsWithin members next → IsWithin (suc members) (with_side last side next)
short_with_side last members side (Some next) short = omega (arith, short)
short_with_side last members side None short = short_by_test members side (nat_lt side last)

-- and that is of no more members
pub next_is_short : (last members : ℕ) (word : Word) → length word ≤ members → IsWithin members (next_later last word)
next_is_short last members [] short = tt
next_is_short last zero (side ∷ word) short = absurd (omega arith)
next_is_short last (suc members) (side ∷ word) short =
    short_with_side last members side (next_later last word) (next_is_short last members word (omega arith))

-- the last side of a word says nothing where no side is after it
pub without_last : (last : ℕ) (word : Word) (side : ℕ) → last ≤ side → next_later last (word ++ side ∷ []) ≡ next_later last word
without_last last [] side most =
    let is : nat_lt side last ≡ false = grind (arith, nat_tests) in
    ap (λ less. if less then Some ((side + 1) ∷ []) else None) is
without_last last (first ∷ word) side most = ap (with_side last first) (without_last last word side most)

-- else the next word has the side after it
pub with_next : (last : ℕ) (word : Word) (side : ℕ) → side < last → next_later last (word ++ side ∷ []) ≡ Some (word ++ (side + 1) ∷ [])
with_next last [] side less =
    let is : nat_lt side last ≡ true = grind (arith, nat_tests) in
    ap (λ less. if less then Some ((side + 1) ∷ []) else None) is
with_next last (first ∷ word) side less = ap (with_side last first) (with_next last word side less)
