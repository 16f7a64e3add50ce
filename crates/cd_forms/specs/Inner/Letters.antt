-- Characters under numbers, and the nodes that hold one each.
use Rattle.std.specs.Prelude.{◌≡◌, ◌+◌, ◌++◌, ℕ, List, [], ◌∷◌, map, length, Some}
use Rattle.std.specs.List.{slice_get}
use Rattle.cd_sets.specs.declared.node_id.NodeId.{NodeId}
use Rattle.cd_model.specs.BuiltIns.{node}
use Rattle.cd_model.specs.Formula.{Formula}
use Rattle.cd_forms.specs.Inner.Chains.{begin, chain_from}
use Rattle.cd_model.specs.Leaves.{one_character}

-- the node of a character, where those of all letters stand from a number on
abbrev pub IsLetter : (first : ℕ) → (letters : List ℕ) → ℕ → NodeId → Type 0
IsLetter first letters c id = (number : ℕ) × (slice_get letters number ≡ Some c)
    × (id ≡ node (first + number))

-- those of the characters of a text
abbrev pub AreLetters : (first : ℕ) → (letters : List ℕ) → (text : List ℕ) → List NodeId → Type 0
AreLetters first letters [] [] = Unit {0}
AreLetters first letters [] (id ∷ ids) = ⊥
AreLetters first letters (c ∷ text) [] = ⊥
AreLetters first letters (c ∷ text) (id ∷ ids) = IsLetter first letters c id
    × AreLetters first letters text ids

-- the formulas for the pairs of the characters of a text and then an end, which are to stand from a
-- number on, and where the pairs begin: those of the letters come first
abbrev pub IsTextBatch : (first : ℕ) → (text : List ℕ) → (end : NodeId) → List Formula → NodeId
    → Type 0
IsTextBatch first text end batch id = (letters : List ℕ) × (heads : List NodeId)
    × AreLetters first letters text heads
    × (batch ≡ map one_character letters ++ chain_from (first + length letters) heads end)
    × (id ≡ begin (first + length letters) heads end)
