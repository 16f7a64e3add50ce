-- What is left of all words after one of them, by recursion on that word. The sides are those up to
-- the last one.
use Rattle.std.specs.Prelude.{◌≤◌, ℕ, zero, suc, ◌+◌, ◌-◌, List, [], ◌∷◌, ◌++◌, map, length}
use Rattle.std.specs.Prelude.{Option, Some, None, nat_lt, if◌then◌else◌}
use Rattle.cd_tasks.specs.Assignments.{Word, each_side, all_words}

-- the longer words that begin with it
abbrev pub below : (last members : ℕ) → Word → List Word
below last zero word = []
below last (suc members) [] = each_side 0 (suc last) (all_words (suc last) members)
below last (suc members) (side ∷ word) = map (λ longer. side ∷ longer) (below last members word)

-- the words after these
abbrev pub later : (last members : ℕ) → Word → List Word
later last members [] = []
later last zero (side ∷ word) = []
later last (suc members) (side ∷ word) = map (λ longer. side ∷ longer) (later last members word)
    ++ each_side (side + 1) (last - side) (all_words (suc last) members)

-- both
abbrev pub after : (last members : ℕ) → Word → List Word
after last members word = below last members word ++ later last members word

-- the first of the words that are later, if there is one
abbrev pub with_side : (last side : ℕ) → Option Word → Option Word
with_side last side (Some next) = Some (side ∷ next)
with_side last side None = if nat_lt side last then Some ((side + 1) ∷ []) else None

abbrev pub next_later : (last : ℕ) → Word → Option Word
next_later last [] = None
next_later last (side ∷ word) = with_side last side (next_later last word)

-- the words from this one on, if there is one
abbrev pub words_from : (last members : ℕ) → Option Word → List Word
words_from last members None = []
words_from last members (Some word) = word ∷ after last members word

-- it is of no more members than these
abbrev pub IsWithin : (members : ℕ) → Option Word → Type 0
IsWithin members None = Unit {0}
IsWithin members (Some word) = length word ≤ members
