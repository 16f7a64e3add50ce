-- The one thing of a list that passes a test.
use Rattle.std.proofs.Common.{◌≡◌, ℕ, zero, suc, Bool, true, false, List, [], ◌∷◌, Some, refl, sym, ap}
use Rattle.std.proofs.Common.{◌∙◌, true≢false, if◌then◌else◌, arith}
use Rattle.std.proofs.lemmas.Option.{none-some, same_Some}
use Rattle.std.specs.List.{slice_get}

module _ {X : Type 0} (test : X → Bool) where
  -- the number of the first one that passes; that of none is the length
  abbrev pub find : List X → ℕ
  find [] = zero
  find (x ∷ xs) = if test x then zero else suc (find xs)

  pub find_one : (xs : List X) (k : ℕ) (x : X) → slice_get xs k ≡ Some x → test x ≡ true
      → ((other : ℕ) (y : X) → slice_get xs other ≡ Some y → test y ≡ true → other ≡ k)
      → find xs ≡ k
  find_one [] k x is passes alone = absurd (none-some x is)
  find_one (y ∷ xs) k x is passes alone = by_test (test y) refl
      (λ k is alone. find_one xs k x is passes alone)
    where
      later : (k : ℕ) → slice_get (y ∷ xs) k ≡ Some x → test y ≡ false
          → ((other : ℕ) (z : X) → slice_get (y ∷ xs) other ≡ Some z → test z ≡ true → other ≡ k)
          → ((k : ℕ) → slice_get xs k ≡ Some x
          → ((other : ℕ) (z : X) → slice_get xs other ≡ Some z → test z ≡ true → other ≡ k)
          → find xs ≡ k)
          → suc (find xs) ≡ k
      later zero is fails alone on = absurd (true≢false
          (sym passes ∙ ap test (sym (same_Some y x is)) ∙ fails))
      later (suc k) is fails alone on = ap suc (on k is
          (λ other z there does. omega (arith, alone (suc other) z there does)))

      by_test : (b : Bool) → test y ≡ b
          → ((k : ℕ) → slice_get xs k ≡ Some x
          → ((other : ℕ) (z : X) → slice_get xs other ≡ Some z → test z ≡ true → other ≡ k)
          → find xs ≡ k)
          → find (y ∷ xs) ≡ k
      by_test true does on = ap (λ (b : Bool). if b then zero else suc (find xs)) does
          ∙ alone zero y refl does
      by_test false fails on = ap (λ (b : Bool). if b then zero else suc (find xs)) fails
          ∙ later k is fails alone on
