-- What stands at a number of a list, by what a function gives for it.
use Rattle.std.proofs.Common.{◌≡◌, ◌<◌, ◌≤◌, ℕ, zero, suc, List, [], ◌∷◌, ◌++◌, Some, map, take, length, get_or, refl, sym, ap, subst, ◌∙◌, arith}
use Rattle.std.specs.List.{slice_get}
use Rattle.std.proofs.lemmas.Option.{none-some, same_Some}

module _ {X Y : Type 0} (f : X → Y) where
  pub number_within : (xs : List X) (number : ℕ) (y : Y) → slice_get (map f xs) number ≡ Some y → number < length xs
  number_within [] number y there = absurd (none-some y there)
  number_within (x ∷ xs) zero y there = omega arith
  number_within (x ∷ xs) (suc number) y there = let further = number_within xs number y there in omega (arith, further)

  pub gives_at : (xs : List X) (number : ℕ) (y : Y) (one : X) → one ≡ get_or xs number one → slice_get (map f xs) number ≡ Some y → f one ≡ y
  gives_at [] number y one at there = absurd (none-some y there)
  gives_at (x ∷ xs) zero y one at there = ap f at ∙ same_Some (f x) y there
  gives_at (x ∷ xs) (suc number) y one at there = gives_at xs number y one at there

  -- by a list that is what it gives for all
  module _ (xs : List X) (ys : List Y) (are : map f xs ≡ ys) (number : ℕ) (y : Y) (there : slice_get ys number ≡ Some y) where
    there_too : slice_get (map f xs) number ≡ Some y
    there_too = ap (λ (all : List Y). slice_get all number) are ∙ there

    pub is_within : number < length xs
    is_within = number_within xs number y there_too

    pub gives : (one : X) → one ≡ get_or xs number one → f one ≡ y
    gives one at = gives_at xs number y one at there_too

  abbrev IsFirst : List Y → Type 0
  IsFirst [] = ⊥
  IsFirst (y ∷ ys) = Unit {0}

  abbrev first_or : Y → List Y → Y
  first_or other [] = other
  first_or other (y ∷ ys) = y

  abbrev rest_of : List Y → List Y
  rest_of [] = []
  rest_of (y ∷ ys) = ys

  -- the first of a list
  pub so_many : (xs : List X) (ys zs : List Y) → map f xs ≡ ys ++ zs → length ys ≤ length xs
  so_many xs [] zs are = omega arith
  so_many [] (y ∷ ys) zs are = absurd (subst IsFirst (sym are) tt)
  so_many (x ∷ xs) (y ∷ ys) zs are = let further = so_many xs ys zs (ap rest_of are) in omega (arith, further)

  pub first_are : (xs : List X) (ys zs : List Y) → map f xs ≡ ys ++ zs → map f (take (length ys) xs) ≡ ys
  first_are xs [] zs are = refl
  first_are [] (y ∷ ys) zs are = absurd (subst IsFirst (sym are) tt)
  first_are (x ∷ xs) (y ∷ ys) zs are =
      ap (λ (z : Y). z ∷ map f (take (length ys) xs)) (ap (first_or y) are) ∙ ap (λ (all : List Y). y ∷ all) (first_are xs ys zs (ap rest_of are))
