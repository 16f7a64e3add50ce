-- Things of lists, by their numbers.
use Rattle.std.proofs.Common.{◌≡◌, ◌<◌, ℕ, zero, suc, List, [], ◌∷◌, ◌++◌, ◌⊎◌, inl, inr, length}
use Rattle.std.proofs.Common.{◌+◌, ◌≤◌, Some, refl, sym, ap, subst, ◌∙◌, arith, take, get_or}
use Rattle.std.proofs.lemmas.Option.{none-some, same_Some, slice_get_within, slice_get-get_or}
use Rattle.std.proofs.lemmas.Option.{get_or_from_slice_get}
use Rattle.std.proofs.lemmas.List.{take_more, take_all}
use Rattle.std.proofs.lemmas.List.Elements.{Contains-push_cases}
use Rattle.std.specs.List.{slice_get, Contains}
use Rattle.cd_model.specs.AllOf.{AnyOf}

module _ {X : Type 0} where
  -- what is in a list under a number of a shorter one is there
  pub got_before : (xs more : List X) (k : ℕ) (x : X) → k < length xs
      → slice_get (xs ++ more) k ≡ Some x → slice_get xs k ≡ Some x
  got_before [] more k x below is = absurd (omega (arith, below))
  got_before (y ∷ xs) more zero x below is = is
  got_before (y ∷ xs) more (suc k) x below is =
      got_before xs more k x (omega (arith, below)) is

  -- the last one has the number of those before it
  pub got_last : (xs : List X) (x : X) → slice_get (xs ++ x ∷ []) (length xs) ≡ Some x
  got_last [] x = refl
  got_last (y ∷ xs) x = got_last xs x

  pub contains_got : (xs : List X) (k : ℕ) (x : X) → slice_get xs k ≡ Some x → Contains xs x
  contains_got xs k x is = (k, slice_get_within xs k x is, get_or_from_slice_get xs k x x is)

  pub got_contains : (xs : List X) (x : X) (has : Contains xs x) → slice_get xs has.0 ≡ Some x
  got_contains xs x has = slice_get-get_or xs has.0 x has.1 ∙ ap Some has.2

  -- one of a list is in it, and back
  pub contains_any : (xs : List X) (x : X) → AnyOf (λ y. y ≡ x) xs → Contains xs x
  contains_any [] x is = absurd is
  contains_any (y ∷ xs) x (inl same) = (0, omega arith, same)
  contains_any (y ∷ xs) x (inr later) =
      let has = contains_any xs x later in (suc has.0, omega (arith, has.1), has.2)

  any_got : (xs : List X) (k : ℕ) (x : X) → slice_get xs k ≡ Some x → AnyOf (λ y. y ≡ x) xs
  any_got [] k x is = absurd (none-some x is)
  any_got (y ∷ xs) zero x is = inl (same_Some y x is)
  any_got (y ∷ xs) (suc k) x is = inr (any_got xs k x is)

  pub any_contains : (xs : List X) (x : X) → Contains xs x → AnyOf (λ y. y ≡ x) xs
  any_contains xs x has = any_got xs has.0 x (got_contains xs x has)

  -- of the first ones and one more
  pub one_more : (xs : List X) (k : ℕ) (x : X) → k < length xs → x ≡ get_or xs k x → (one : X)
      → Contains (take (k + 1) xs) one → Contains (take k xs) one ⊎ (x ≡ one)
  one_more xs k x below is one has = Contains-push_cases (take k xs) x one
      (subst (λ (all : List X). Contains all one)
      (take_more xs k x below ∙ ap (λ other. take k xs ++ other ∷ []) (sym is)) has)

  -- all of the first ones are all where there are no more
  pub all_taken : (xs : List X) (k : ℕ) (one : X) → length xs ≤ k → Contains xs one
      → Contains (take k xs) one
  all_taken xs k one past has =
      subst (λ (all : List X). Contains all one) (sym (take_all k xs past)) has
