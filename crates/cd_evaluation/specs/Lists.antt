-- Lists of values, and sequences that are made of sequences.
use Rattle.std.specs.Prelude.{◌++◌, ℕ, List, [], ◌∷◌, Option, Some, None, option_map, codes}
use Rattle.std.specs.Prelude.{bytes_eq, if◌then◌else◌}
use Rattle.cd_model.specs.Thing.{Thing, Character, Atom, Pair}
use Rattle.cd_matching.specs.Sequences.{items, sequence_of}
use Rattle.cd_evaluation.specs.Runs.{Outcome, found}

-- Values are put before others one by one, so that they stand there in the opposite order. Where
-- what is done is kept from the last value to the first, `before done []` has it from the first
abbrev pub before : (done others : List Thing) → List Thing
before [] others = others
before (v ∷ done) others = before done (v ∷ others)

-- the items of one sequence and then of another, if both are sequences
abbrev pub both_items : Option (List Thing) → Option (List Thing) → Option (List Thing)
both_items (Some first) (Some second) = Some (first ++ second)
both_items _ _ = None

-- the items of all these things, if they are sequences
abbrev pub all_items : List Thing → Option (List Thing)
all_items [] = Some []
all_items (v ∷ rest) = both_items (items v) (all_items rest)

-- the sequence of the items
abbrev pub listed : Option (List Thing) → Outcome
listed all = found (option_map sequence_of all)

-- one more character of a text
abbrev pub with_character : Thing → Option (List ℕ) → Option (List ℕ)
with_character (Character c) (Some text) = Some (c ∷ text)
with_character _ _ = None

-- the characters of a text, and None of another thing
abbrev pub characters_of : Thing → Option (List ℕ)
characters_of (Atom name) = if bytes_eq name (codes "nil") then Some [] else None
characters_of (Pair first rest) = with_character first (characters_of rest)
characters_of _ = None
