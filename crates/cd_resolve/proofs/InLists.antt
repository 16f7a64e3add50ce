-- What is in a list, and at which place.
use Rattle.std.proofs.Common.{◌≡◌, ℕ, zero, suc, ◌⊎◌, inl, inr, List, [], ◌∷◌, ◌++◌, Some, refl, sym, ap}
use Rattle.std.specs.List.{slice_get as nth}

abbrev pub IsIn : {A : Type 0} → A → List A → Type 0
IsIn a [] = ⊥
IsIn a (b ∷ rest) = (a ≡ b) ⊎ IsIn a rest

pub in_front : {A : Type 0} → (a : A) (xs ys : List A) → IsIn a xs → IsIn a (xs ++ ys)
in_front a [] ys is = elim is [ ]
in_front a (x ∷ xs) ys (inl same) = inl same
in_front a (x ∷ xs) ys (inr on) = inr (in_front a xs ys on)

pub in_back : {A : Type 0} → (a : A) (xs ys : List A) → IsIn a ys → IsIn a (xs ++ ys)
in_back a [] ys is = is
in_back a (x ∷ xs) ys is = inr (in_back a xs ys is)

pub in_last : {A : Type 0} → (a : A) (xs : List A) → IsIn a (xs ++ a ∷ [])
in_last a xs = in_back a xs (a ∷ []) (inl refl)

pub in_either : {A : Type 0} → (a : A) (xs ys : List A) → IsIn a (xs ++ ys) → IsIn a xs ⊎ IsIn a ys
in_either a [] ys is = inr is
in_either a (x ∷ xs) ys (inl same) = inl (inl same)
in_either a (x ∷ xs) ys (inr on) = later (in_either a xs ys on)
  where
    later : IsIn a xs ⊎ IsIn a ys → IsIn a (x ∷ xs) ⊎ IsIn a ys
    later (inl is) = inl (inr is)
    later (inr is) = inr is

-- in a list and one more
pub in_more : {A : Type 0} → (a b : A) (xs : List A) → IsIn a (xs ++ b ∷ []) → IsIn a xs ⊎ (a ≡ b)
in_more a b xs is = by (in_either a xs (b ∷ []) is)
  where
    by : IsIn a xs ⊎ IsIn a (b ∷ []) → IsIn a xs ⊎ (a ≡ b)
    by (inl is) = inl is
    by (inr (inl same)) = inr same
    by (inr (inr is)) = elim is [ ]

-- what stands in a list has a place there, and what has one stands in it
pub nth_of : {A : Type 0} → (a : A) (xs : List A) → IsIn a xs → (n : ℕ) × (nth xs n ≡ Some a)
nth_of a [] is = elim is [ ]
nth_of a (x ∷ xs) (inl same) = (zero, ap Some (sym same))
nth_of a (x ∷ xs) (inr on) = let next = nth_of a xs on in (suc next.0, next.1)

pub in_nth : {A : Type 0} → (a : A) (xs : List A) (n : ℕ) → nth xs n ≡ Some a → IsIn a xs
in_nth a [] n is = absurd cc
in_nth a (x ∷ xs) zero is = inl cc
in_nth a (x ∷ xs) (suc n) is = inr (in_nth a xs n is)
