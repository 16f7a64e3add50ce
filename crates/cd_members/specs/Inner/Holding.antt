-- Which of the members of tasks hold what is made for the tasks.
use Rattle.std.specs.Prelude.{◌≡◌, ◌⊎◌, ◌++◌, ℕ, Bool, true, false, List, [], ◌∷◌, Option, Some}
use Rattle.std.specs.Prelude.{None}
use Rattle.cd_model.specs.AllOf.{AllOf}
use Rattle.cd_members.specs.Held.{IsSoAt}

-- the place of a member of which it is so; without a place it is so of none
abbrev pub IsPlace : {X : Type 0} → (X → Bool → Type 0) → List X → Option ℕ → Type 0
IsPlace fact members None = AllOf (λ x. fact x false) members
IsPlace fact members (Some place) = IsSoAt fact members place

-- the place of a member is added to others, if it is so of it, or none is
abbrev pub AddsPlace : Bool → ℕ → (before after : List ℕ) → Type 0
AddsPlace held place before after = (after ≡ before)
    ⊎ ((held ≡ true) × (after ≡ before ++ place ∷ []))
