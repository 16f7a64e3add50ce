-- Things of lists, by their numbers.
use Rattle.std.proofs.Common.{◌≡◌, ◌<◌, ◌≤◌, ◌+◌, ℕ, zero, suc, List, [], ◌∷◌, ◌++◌, ◌⊎◌, inl, inr}
use Rattle.std.proofs.Common.{length, Some, None, refl, sym, ap, subst, ◌∙◌, arith}
use Rattle.std.proofs.lemmas.Option.{none-some, same_Some}
use Rattle.std.specs.List.{slice_get, AllZip}
use Rattle.cd_model.specs.AllOf.{AllOf}

module _ {X : Type 0} where
  -- what is in a list is in a longer one, under the same number
  pub got_more : (xs more : List X) (k : ℕ) (x : X) → slice_get xs k ≡ Some x
      → slice_get (xs ++ more) k ≡ Some x
  got_more [] more k x is = absurd (none-some x is)
  got_more (y ∷ xs) more zero x is = is
  got_more (y ∷ xs) more (suc k) x is = got_more xs more k x is

  -- what comes after a list, by the number after it
  pub got_after : (xs ys : List X) (k : ℕ)
      → slice_get (xs ++ ys) (length xs + k) ≡ slice_get ys k
  got_after [] ys k = ap (slice_get ys) (omega arith)
  got_after (x ∷ xs) ys k =
      let more : suc (length xs) + k ≡ suc (length xs + k) = omega arith in
      ap (slice_get (x ∷ xs ++ ys)) more ∙ got_after xs ys k

  -- in a list with one more it was there, or is the last
  pub got_pushed : (xs : List X) (y : X) (k : ℕ) (x : X) → slice_get (xs ++ y ∷ []) k ≡ Some x
      → (slice_get xs k ≡ Some x) ⊎ ((k ≡ length xs) × (y ≡ x))
  got_pushed [] y zero x is = inr (refl, same_Some y x is)
  got_pushed [] y (suc k) x is = absurd (none-some x is)
  got_pushed (z ∷ xs) y zero x is = inl is
  got_pushed (z ∷ xs) y (suc k) x is = elim (got_pushed xs y k x is) [
    | inl before ↦ inl before
    | inr last ↦ inr (omega (arith, last.0), last.1)
  ]

  -- a number of a list has a thing
  pub got_some : (xs : List X) (k : ℕ) → k < length xs → (x : X) × (slice_get xs k ≡ Some x)
  got_some [] k below = absurd (omega (arith, below))
  got_some (x ∷ xs) zero below = (x, refl)
  got_some (x ∷ xs) (suc k) below = got_some xs k (omega (arith, below))

  -- a number that has none is past the end
  pub past_end : (xs : List X) (k : ℕ) → slice_get xs k ≡ None → length xs ≤ k
  past_end [] k none = omega arith
  past_end (x ∷ xs) zero none = absurd (none-some x (sym none))
  past_end (x ∷ xs) (suc k) none = omega (arith, past_end xs k none)

  -- what all of a list have, one of it has
  pub all_got : (fact : X → Type 0) (xs : List X) (k : ℕ) (x : X) → AllOf fact xs
      → slice_get xs k ≡ Some x → fact x
  all_got fact [] k x all is = absurd (none-some x is)
  all_got fact (y ∷ xs) zero x all is = subst fact (same_Some y x is) all.0
  all_got fact (y ∷ xs) (suc k) x all is = all_got fact xs k x all.1 is

  -- and back
  pub each_got : (fact : X → Type 0) (xs : List X)
      → ((k : ℕ) (x : X) → slice_get xs k ≡ Some x → fact x) → AllOf fact xs
  each_got fact [] each = tt
  each_got fact (x ∷ xs) each =
      (each zero x refl, each_got fact xs (λ k y is. each (suc k) y is))

-- of two lists, one more of each, and what follows from a fact of each two
pub zip_pushed : {A B : Type 0} (fact : A → B → Type 0) (xs : List A) (ys : List B) (x : A) (y : B)
    → AllZip fact xs ys → fact x y → AllZip fact (xs ++ x ∷ []) (ys ++ y ∷ [])
zip_pushed fact [] [] x y all is = (is, tt)
zip_pushed fact [] (b ∷ ys) x y all is = absurd all
zip_pushed fact (a ∷ xs) [] x y all is = absurd all
zip_pushed fact (a ∷ xs) (b ∷ ys) x y all is = (all.0, zip_pushed fact xs ys x y all.1 is)

pub zip_weaker : {A B : Type 0} (one other : A → B → Type 0)
    → ((x : A) (y : B) → one x y → other x y) → (xs : List A) (ys : List B)
    → AllZip one xs ys → AllZip other xs ys
zip_weaker one other weaker [] [] all = tt
zip_weaker one other weaker [] (b ∷ ys) all = all
zip_weaker one other weaker (a ∷ xs) [] all = all
zip_weaker one other weaker (a ∷ xs) (b ∷ ys) all =
    (weaker a b all.0, zip_weaker one other weaker xs ys all.1)
