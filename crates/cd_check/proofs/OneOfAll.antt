-- A fact of one of the things in a list.
use Rattle.std.proofs.Common.{◌≡◌, ◌<◌, inl, inr, ℕ, zero, suc, arith, subst, List, [], ◌∷◌, map, length, get_or}
use Rattle.cd_model.specs.AllOf.{AllOf, AnyOf}

-- what is so of the thing at a place is so of one of all
pub any_at : {X : Type 0} (fact : X → Type 0) (all : List X) (index : ℕ) (one : X) → one ≡ get_or all index one → index < length all
    → fact one → AnyOf fact all
any_at fact [] index one is more here = absurd (omega arith)
any_at fact (first ∷ rest) zero one is more here = inl (subst fact is here)
any_at fact (first ∷ rest) (suc index) one is more here = inr (any_at fact rest index one is (omega arith) here)

-- another fact follows
pub any_more : {X : Type 0} (fact other : X → Type 0) → ((x : X) → fact x → other x) → (all : List X) → AnyOf fact all → AnyOf other all
any_more fact other more [] is = absurd is
any_more fact other more (first ∷ rest) (inl here) = inl (more first here)
any_more fact other more (first ∷ rest) (inr later) = inr (any_more fact other more rest later)

-- where all have a fact too
pub any_where : {X : Type 0} (fact known other : X → Type 0) → ((x : X) → known x → fact x → other x) → (all : List X) → AllOf known all
    → AnyOf fact all → AnyOf other all
any_where fact known other more [] are is = absurd is
any_where fact known other more (first ∷ rest) are (inl here) = inl (more first are.0 here)
any_where fact known other more (first ∷ rest) are (inr later) = inr (any_where fact known other more rest are.1 later)

-- what is so of one is so of what a function gives for one
pub any_of_map : {X Y : Type 0} (f : X → Y) (fact : Y → Type 0) (all : List X) → AnyOf (λ one. fact (f one)) all → AnyOf fact (map f all)
any_of_map f fact [] is = absurd is
any_of_map f fact (first ∷ rest) (inl here) = inl here
any_of_map f fact (first ∷ rest) (inr later) = inr (any_of_map f fact rest later)
