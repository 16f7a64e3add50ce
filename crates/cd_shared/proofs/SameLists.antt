-- Lists that are the same by their numbers.
use Rattle.std.proofs.Common.{◌≡◌, ℕ, zero, suc, ◌<◌, List, [], ◌∷◌, None, refl, sym, ap₂, arith}
use Rattle.std.specs.List.{slice_get}
use Rattle.std.specs.Option.{option_map}
use Rattle.std.proofs.lemmas.Option.{none-some, same_Some}

-- both end where nothing is at a number, and are the same up to there
pub ended : {X : Type 0} (xs ys : List X) (index : ℕ)
    → ((k : ℕ) → k < index → slice_get xs k ≡ slice_get ys k)
    → slice_get xs index ≡ None → slice_get ys index ≡ None → xs ≡ ys
ended [] [] index same one other = refl
ended [] (y ∷ ys) zero same one other = absurd (none-some y (sym other))
ended [] (y ∷ ys) (suc index) same one other = absurd (none-some y (same zero (omega arith)))
ended (x ∷ xs) ys zero same one other = absurd (none-some x (sym one))
ended (x ∷ xs) [] (suc index) same one other =
    absurd (none-some x (sym (same zero (omega arith))))
ended (x ∷ xs) (y ∷ ys) (suc index) same one other = ap₂ (λ first rest. first ∷ rest)
    (same_Some x y (same zero (omega arith)))
    (ended xs ys index (λ k below. same (suc k) (omega (arith, below))) one other)

-- nothing is where nothing is made of what is there
pub made_none : {X Y : Type 0} (make : X → Y) (xs : List X) (index : ℕ)
    → option_map make (slice_get xs index) ≡ None → slice_get xs index ≡ None
made_none make [] index none = refl
made_none make (x ∷ xs) zero none = absurd (none-some (make x) (sym none))
made_none make (x ∷ xs) (suc index) none = made_none make xs index none
