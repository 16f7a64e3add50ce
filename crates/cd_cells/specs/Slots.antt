-- A value for each of some numbers.
use Rattle.std.specs.Prelude.{◌≡◌, ℕ, List, Option, Some, None, ◌⊎◌, slice_index_or}

module _ {X : Type 0} where
  -- the value of a number, if it has one
  abbrev pub slot_at : List (Option X) → ℕ → Option X
  slot_at slots number = slice_index_or slots number None

  -- each value that is new is this one of this number
  abbrev pub PutsOnly : (number : ℕ) → X → (old new : List (Option X)) → Type 0
  PutsOnly number value old new = (other : ℕ) (one : X) → slot_at new other ≡ Some one
      → ((other ≡ number) × (one ≡ value)) ⊎ (slot_at old other ≡ Some one)
