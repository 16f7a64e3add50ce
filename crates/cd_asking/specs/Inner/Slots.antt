-- What is known of numbers.
use Rattle.std.specs.Prelude.{◌≡◌, ℕ, List, Option, Some}
use Rattle.cd_cells.specs.Slots.{slot_at}

-- a fact of each number and its value
abbrev pub EachSlot : {X : Type 0} → (ℕ → X → Type 0) → List (Option X) → Type 0
EachSlot fact slots = (number : ℕ) (one : _) → slot_at slots number ≡ Some one → fact number one
