-- A fact of each of a list, and of one of it, by places.
use Rattle.std.proofs.Common.{ℕ, zero, suc, ◌<◌, List, [], ◌∷◌, length, get_or, inl, inr, arith}
use Rattle.cd_model.specs.AllOf.{AllOf, AnyOf}

-- what each of a list has, the one at a place has
pub each_at : {X : Type 0} (fact : X → Type 0) (xs : List X) (place : ℕ) (x : X) → AllOf fact xs → place < length xs
    → fact (get_or xs place x)
each_at fact [] place x each within = absurd (omega arith)
each_at fact (one ∷ xs) zero x each within = each.0
each_at fact (one ∷ xs) (suc place) x each within = each_at fact xs place x each.1 (omega arith)

-- what the one at a place has, one of the list has
pub one_at : {X : Type 0} (fact : X → Type 0) (xs : List X) (place : ℕ) (x : X) → fact (get_or xs place x) → place < length xs → AnyOf fact xs
one_at fact [] place x is within = absurd (omega arith)
one_at fact (one ∷ xs) zero x is within = inl is
one_at fact (one ∷ xs) (suc place) x is within = inr (one_at fact xs place x is (omega arith))
