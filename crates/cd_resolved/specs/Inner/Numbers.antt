-- Numbers that are found by places.
use Rattle.std.specs.Prelude.{◌≡◌, ℕ, List, Option, Some}
use Rattle.std.specs.List.{slice_get}
use Rattle.cd_cells.specs.Slots.{slot_at}

-- no place stands twice in a list
abbrev pub AreOnce : List ℕ → Type 0
AreOnce places = (number other place : ℕ) → slice_get places number ≡ Some place
    → slice_get places other ≡ Some place → number ≡ other

-- the slot of each place has its number
abbrev pub AreNumbers : List ℕ → List (Option ℕ) → Type 0
AreNumbers places slots = AreOnce places → (number place : ℕ)
    → slice_get places number ≡ Some place → slot_at slots place ≡ Some number
