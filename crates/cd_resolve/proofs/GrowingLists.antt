-- What stands in a list that goes on, and in one that was set at one place.
use Rattle.std.proofs.Common.{◌≡◌, ℕ, zero, suc, ◌-◌, ◌<◌, ◌≤◌, List, [], ◌∷◌, ◌++◌, length, set, Some, refl}
use Rattle.std.proofs.Common.{ap, subst, arith}
use Rattle.std.specs.List.{slice_get}

-- a place in a list has the same in the list and more
pub get_before : {X : Type 0} (x : X) (xs ys : List X) (n : ℕ) → slice_get xs n ≡ Some x
    → slice_get (xs ++ ys) n ≡ Some x
get_before x [] ys n is = absurd cc
get_before x (y ∷ xs) ys zero is = is
get_before x (y ∷ xs) ys (suc n) is = get_before x xs ys n is

-- the place after a list has what stands there
pub get_next : {X : Type 0} (x : X) (xs ys : List X) → slice_get (xs ++ x ∷ ys) (length xs) ≡ Some x
get_next x [] ys = refl
get_next x (y ∷ xs) ys = get_next x xs ys

-- what was set stands there
pub get_set : {X : Type 0} (x : X) (xs : List X) (n : ℕ) → n < length xs → slice_get (set xs n x) n ≡ Some x
get_set x [] n within = absurd (omega arith)
get_set x (y ∷ xs) zero within = refl
get_set x (y ∷ xs) (suc n) within = get_set x xs n (omega arith)

-- and another place has what it had
pub get_other : {X : Type 0} (x : X) (xs : List X) (n other : ℕ) → (other ≡ n → ⊥)
    → slice_get (set xs n x) other ≡ slice_get xs other
get_other x [] n other differ = refl
get_other x (y ∷ xs) zero zero differ = absurd (differ refl)
get_other x (y ∷ xs) zero (suc other) differ = refl
get_other x (y ∷ xs) (suc n) zero differ = refl
get_other x (y ∷ xs) (suc n) (suc other) differ = get_other x xs n other (λ same. differ (ap suc same))

-- a place after a list that is set leaves that list
pub set_later : {X : Type 0} (x : X) (xs ys : List X) (n : ℕ) → length xs ≤ n
    → set (xs ++ ys) n x ≡ xs ++ set ys (n - length xs) x
set_later x [] ys n later = let same : n ≡ n - 0 = omega arith in ap (λ (n : ℕ). set ys n x) same
set_later x (y ∷ xs) ys zero later = absurd (omega arith)
set_later x (y ∷ xs) ys (suc n) later =
    let same : n - length xs ≡ suc n - length (y ∷ xs) = omega arith in
    subst (λ (place : ℕ). y ∷ set (xs ++ ys) n x ≡ y ∷ xs ++ set ys place x) same
    (ap (λ (rest : List _). y ∷ rest) (set_later x xs ys n (omega arith)))
