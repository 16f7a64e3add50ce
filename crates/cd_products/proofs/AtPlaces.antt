-- What each thing in a list has, the one at a place has.
use Rattle.std.proofs.Common.{◌≡◌, ℕ, zero, suc, ◌<◌, List, [], ◌∷◌, length, get_or, map, subst}
use Rattle.std.proofs.Common.{sym, arith}
use Rattle.cd_model.specs.AllOf.{AllOf}

at : {X : Type 0} (fact : X → Type 0) (xs : List X) (i : ℕ) (x : X) → AllOf fact xs → i < length xs
    → fact (get_or xs i x)
at fact [] i x each below = absurd (omega arith)
at fact (one ∷ xs) zero x each below = each.0
at fact (one ∷ xs) (suc i) x each below = at fact xs i x each.1 (omega arith)

pub each_at : {X : Type 0} (fact : X → Type 0) (xs : List X) (i : ℕ) (x : X) → AllOf fact xs
    → i < length xs → x ≡ get_or xs i x → fact x
each_at fact xs i x each below is = subst fact (sym is) (at fact xs i x each below)

-- and so of what is made of each
mapped : {X Y : Type 0} (f : X → Y) (fact : Y → Type 0) (xs : List X) → AllOf fact (map f xs)
    → AllOf (λ x. fact (f x)) xs
mapped f fact [] each = tt
mapped f fact (x ∷ xs) each = (each.0, mapped f fact xs each.1)

pub mapped_at : {X Y : Type 0} (f : X → Y) (fact : Y → Type 0) (xs : List X) (i : ℕ) (x : X)
    → AllOf fact (map f xs) → i < length xs → x ≡ get_or xs i x → fact (f x)
mapped_at f fact xs i x each = each_at (λ x. fact (f x)) xs i x (mapped f fact xs each)
