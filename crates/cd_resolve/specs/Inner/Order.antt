-- Numbers that lead to other numbers, and an order in which each comes after those that it leads
-- to.
use Rattle.std.specs.Prelude.{◌≡◌, ℕ, zero, suc, ◌<◌, List, [], ◌∷◌, ◌++◌, length, ◌⊎◌}
use Rattle.std.specs.List.{slice_get}
use Rattle.std.specs.Option.{unwrap_or}
use Rattle.cd_model.specs.AllOf.{AllOf}

-- a number is one of a list
abbrev pub IsOneOf : ℕ → List ℕ → Type 0
IsOneOf number [] = ⊥
IsOneOf number (other ∷ rest) = (other ≡ number) ⊎ IsOneOf number rest

-- the row of a number says what it leads to
abbrev pub row : List (List ℕ) → ℕ → List ℕ
row links number = unwrap_or (slice_get links number) []

-- each number that is led to has a row
abbrev pub AreRows : List (List ℕ) → Type 0
AreRows links = (number : ℕ) → AllOf (λ next. next < length links) (row links number)

-- no way from a number is as long as this, counted in numbers
abbrev pub IsShort : List (List ℕ) → (most : ℕ) → ℕ → Type 0
IsShort links zero number = ⊥
IsShort links (suc most) number = AllOf (IsShort links most) (row links number)

-- all ways from a number end
abbrev pub Ends : List (List ℕ) → ℕ → Type 0
Ends links number = (most : ℕ) × IsShort links most number

-- after these numbers, each of the others comes once, and those that it leads to come before it
abbrev pub ComeAfter : List (List ℕ) → (before order : List ℕ) → Type 0
ComeAfter links before [] = Unit {0}
ComeAfter links before (number ∷ rest) = (IsOneOf number before → ⊥)
    × AllOf (λ next. IsOneOf next before) (row links number)
    × ComeAfter links (before ++ number ∷ []) rest

-- an order of all numbers that have rows
pub record IsOrder (links : List (List ℕ)) (order : List ℕ) : Type 0 where
  pub known : AllOf (λ number. number < length links) order
  pub all : (number : ℕ) → number < length links → IsOneOf number order
  pub after : ComeAfter links [] order
