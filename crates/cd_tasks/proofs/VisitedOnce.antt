-- No word stands twice among all words, and each is one of them.
use Rattle.std.proofs.Common.{◌≡◌, ◌≢◌, refl, ℕ, zero, suc, ◌+◌, ◌<◌, ◌≤◌, List, [], ◌∷◌, ◌++◌, map, length, ◌⊎◌, inl, inr, arith}
use Rattle.std.proofs.lemmas.Bool.{cases_lt}
use Rattle.cd_model.specs.AllOf.{AllOf, AnyOf}
use Rattle.cd_rules.proofs.Asking.{each_of_map}
use Rattle.cd_model.proofs.Ones.{each_weaker, each_of_all, each_of_lists, one_weaker, one_of_map, one_on_left, one_on_right}
use Rattle.cd_tasks.specs.Assignments.{Differ, Word, each_side, all_words}

-- words with a side before them differ where they do
same_after : (side : ℕ) (word other : Word) → side ∷ word ≡ side ∷ other → word ≡ other
same_after side word other same = cc

differ_ahead : (side : ℕ) (words : List Word) → Differ words → Differ (map (λ word. side ∷ word) words)
differ_ahead side [] differ = tt
differ_ahead side (word ∷ words) differ = (
  each_of_map (λ (other : Word). side ∷ other) (λ other. (side ∷ word) ≢ other) words
      (each_weaker (λ other. word ≢ other) (λ other. (side ∷ word) ≢ (side ∷ other))
      (λ other apart same. apart (same_after side word other same)) words differ.0),
  differ_ahead side words differ.1,
)

differ_both : (words more : List Word) → Differ words → Differ more → AllOf (λ word. AllOf (λ other. word ≢ other) more) words
    → Differ (words ++ more)
differ_both [] more differ others apart = others
differ_both (word ∷ words) more differ others apart =
    (each_of_lists (λ other. word ≢ other) words more differ.0 apart.0, differ_both words more differ.1 others apart.1)

-- a word begins with a side that is not below this one
abbrev BeginsFrom : (first : ℕ) → Word → Type 0
BeginsFrom first [] = ⊥
BeginsFrom first (side ∷ word) = first ≤ side

begins_before : (first : ℕ) (word : Word) → BeginsFrom (first + 1) word → BeginsFrom first word
begins_before first [] begins = begins
begins_before first (side ∷ word) begins = omega (arith, begins)

sides_begin : (first count : ℕ) (words : List Word) → AllOf (BeginsFrom first) (each_side first count words)
sides_begin first zero words = tt
sides_begin first (suc count) words =
    let least : first ≤ first = omega arith in
    each_of_lists (BeginsFrom first) (map (λ word. first ∷ word) words) (each_side (first + 1) count words)
    (each_of_map (λ (word : Word). first ∷ word) (BeginsFrom first) words (each_of_all (λ word. first ≤ first) (λ word. least) words))
    (each_weaker (BeginsFrom (first + 1)) (BeginsFrom first) (begins_before first) (each_side (first + 1) count words)
    (sides_begin (first + 1) count words))

apart_from : (first : ℕ) (word other : Word) → BeginsFrom (first + 1) other → (first ∷ word) ≢ other
apart_from first word [] begins = elim begins [ ]
apart_from first word (side ∷ other) begins = λ same. let is : first ≡ side = cc in absurd (omega (arith, begins))

differ_sides : (first count : ℕ) (words : List Word) → Differ words → Differ (each_side first count words)
differ_sides first zero words differ = tt
differ_sides first (suc count) words differ =
    let rest = each_side (first + 1) count words in
    differ_both (map (λ word. first ∷ word) words) rest (differ_ahead first words differ) (differ_sides (first + 1) count words differ)
    (each_of_map (λ (word : Word). first ∷ word) (λ word. AllOf (λ other. word ≢ other) rest) words
    (each_of_all (λ word. AllOf (λ other. (first ∷ word) ≢ other) rest)
    (λ word. each_weaker (BeginsFrom (first + 1)) (λ other. (first ∷ word) ≢ other) (apart_from first word) rest
    (sides_begin (first + 1) count words)) words))

not_empty : (word : Word) → BeginsFrom 0 word → [] ≢ word
not_empty [] begins = elim begins [ ]
not_empty (side ∷ word) begins = λ same. cc

pub words_differ : (sides members : ℕ) → Differ (all_words sides members)
words_differ sides zero = (tt, tt)
words_differ sides (suc members) = (
  each_weaker (BeginsFrom 0) (λ word. [] ≢ word) not_empty (each_side 0 sides (all_words sides members))
      (sides_begin 0 sides (all_words sides members)),
  differ_sides 0 sides (all_words sides members) (words_differ sides members),
)

-- a word with a side before it is among those with the first side, or among the rest
in_front_or_rest : (side first : ℕ) (word : Word) (words rest : List Word) → first ≤ side → (first < side) ⊎ (side ≤ first)
    → (first < side → AnyOf (λ other. other ≡ side ∷ word) rest) → AnyOf (λ other. other ≡ word) words
    → AnyOf (λ other. other ≡ side ∷ word) (map (λ longer. first ∷ longer) words ++ rest)
in_front_or_rest side first word words rest least (inl less) later is =
    one_on_right (λ other. other ≡ side ∷ word) (map (λ longer. first ∷ longer) words) rest (later less)
in_front_or_rest side first word words rest least (inr most) later is =
    let same : first ≡ side = omega arith in
    one_on_left (λ other. other ≡ side ∷ word) (map (λ longer. first ∷ longer) words) rest
    (one_of_map (λ (longer : Word). first ∷ longer) (λ other. other ≡ side ∷ word) words
    (one_weaker (λ other. other ≡ word) (λ other. first ∷ other ≡ side ∷ word) (λ other here. cc (here, same)) words is))

in_sides : (side : ℕ) (word : Word) (first count : ℕ) (words : List Word) → first ≤ side → side < first + count
    → AnyOf (λ other. other ≡ word) words → AnyOf (λ other. other ≡ side ∷ word) (each_side first count words)
in_sides side word first zero words least less is = absurd (omega arith)
in_sides side word first (suc count) words least less is =
    in_front_or_rest side first word words (each_side (first + 1) count words) least (cases_lt first side)
    (λ more. in_sides side word (first + 1) count words (omega (arith, more)) (omega arith) is) is

pub each_is_visited : (sides members : ℕ) (word : Word) → length word ≤ members → AllOf (λ side. side < sides) word
    → AnyOf (λ other. other ≡ word) (all_words sides members)
each_is_visited sides zero [] short below = inl refl
each_is_visited sides zero (side ∷ word) short below = absurd (omega arith)
each_is_visited sides (suc members) [] short below = inl refl
each_is_visited sides (suc members) (side ∷ word) short below =
    let least : 0 ≤ side = omega arith in
    let less : side < 0 + sides = omega (arith, below.0) in
    inr (in_sides side word 0 sides (all_words sides members) least less (each_is_visited sides members word (omega arith) below.1))
