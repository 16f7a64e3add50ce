-- A fact of each item of a list.
use Rattle.std.proofs.Common.{◌≡◌, ℕ, zero, suc, ◌<◌, List, [], ◌∷◌, ◌++◌, inl, inr, length, take, get_or, arith, subst}
use Rattle.std.proofs.Math.ListN.{set}
use Rattle.cd_model.specs.AllOf.{AllOf, AnyOf}

module _ {X : Type 0} (P : X → Type 0) where
  pub all_get : (xs : List X) (i : ℕ) (none : X) → AllOf P xs → i < length xs → P (get_or xs i none)
  all_get [] i none all within = absurd (omega (arith, within))
  all_get (x ∷ xs) zero none all within = all.0
  all_get (x ∷ xs) (suc i) none all within = all_get xs i none all.1 (omega (arith, within))

  pub all_set : (xs : List X) (i : ℕ) (y : X) → AllOf P xs → P y → AllOf P (set xs i y)
  all_set [] i y all one = tt
  all_set (x ∷ xs) zero y all one = (one, all.1)
  all_set (x ∷ xs) (suc i) y all one = (all.0, all_set xs i y all.1 one)

  pub all_take : (n : ℕ) (xs : List X) → AllOf P xs → AllOf P (take n xs)
  all_take zero xs all = tt
  all_take (suc n) [] all = tt
  all_take (suc n) (x ∷ xs) all = (all.0, all_take n xs all.1)

  -- one of the things in a list
  pub one_of : (xs : List X) (y : X) → AllOf P xs → AnyOf (λ x. x ≡ y) xs → P y
  one_of [] y all any = absurd any
  one_of (x ∷ xs) y all (inl same) = subst P same all.0
  one_of (x ∷ xs) y all (inr later) = one_of xs y all.1 later

  pub all_with : (xs : List X) (y : X) → AllOf P xs → P y → AllOf P (xs ++ y ∷ [])
  all_with [] y all one = (one, tt)
  all_with (x ∷ xs) y all one = (all.0, all_with xs y all.1 one)
