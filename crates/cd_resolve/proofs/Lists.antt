-- A fact of each of a list, what is one of a list, and an order with one number more.
use Rattle.std.proofs.Common.{◌≡◌, ℕ, zero, suc, ◌⊎◌, inl, inr, List, [], ◌∷◌, ◌++◌, Some, None, sym, subst, take}
use Rattle.std.proofs.Common.{append_assoc}
use Rattle.std.proofs.lemmas.List.{append-nil}
use Rattle.std.specs.List.{slice_get}
use Rattle.cd_model.specs.AllOf.{AllOf}
use Rattle.cd_resolve.specs.Inner.Order.{IsOneOf, row, ComeAfter}

-- what holds of each of a list holds of one of it
pub each_at : (Fact : ℕ → Type 0) (list : List ℕ) (number : ℕ) → AllOf Fact list → IsOneOf number list → Fact number
each_at Fact [] number each is = elim is [ ]
each_at Fact (other ∷ rest) number each (inl same) = subst Fact same each.0
each_at Fact (other ∷ rest) number each (inr on) = each_at Fact rest number each.1 on

-- a fact of each at the front, and of the next
pub each_taken : (Fact : ℕ → Type 0) (list : List ℕ) (place number : ℕ) → slice_get list place ≡ Some number
    → AllOf Fact (take place list) → Fact number → AllOf Fact (take (suc place) list)
each_taken Fact [] place number at each fact = absurd cc
each_taken Fact (other ∷ rest) zero number at each fact = let same : number ≡ other = cc in (subst Fact same fact, tt)
each_taken Fact (other ∷ rest) (suc place) number at each fact = (
  each.0,
  each_taken Fact rest place number at each.1 fact,
)

-- of each at the front, where that is all
pub each_to_end : (Fact : ℕ → Type 0) (list : List ℕ) (place : ℕ) → slice_get list place ≡ None
    → AllOf Fact (take place list) → AllOf Fact list
each_to_end Fact [] place at each = tt
each_to_end Fact (other ∷ rest) zero at each = absurd cc
each_to_end Fact (other ∷ rest) (suc place) at each = (each.0, each_to_end Fact rest place at each.1)

-- what stands at a place is one of the list
pub one_at : (list : List ℕ) (place number : ℕ) → slice_get list place ≡ Some number → IsOneOf number list
one_at [] place number at = absurd cc
one_at (other ∷ rest) zero number at = inl cc
one_at (other ∷ rest) (suc place) number at = inr (one_at rest place number at)

-- the last of a list is one of it
pub one_at_last : (list : List ℕ) (last number : ℕ) → last ≡ number → IsOneOf number (list ++ last ∷ [])
one_at_last [] last number same = inl same
one_at_last (other ∷ rest) last number same = inr (one_at_last rest last number same)

-- one of a list with one more is one of the list, or the last
pub one_of_more : (list : List ℕ) (last number : ℕ) → IsOneOf number (list ++ last ∷ [])
    → IsOneOf number list ⊎ (last ≡ number)
one_of_more [] last number (inl same) = inr same
one_of_more [] last number (inr is) = elim is [ ]
one_of_more (other ∷ rest) last number (inl same) = inl (inl same)
one_of_more (other ∷ rest) last number (inr on) = by (one_of_more rest last number on)
  where
    by : IsOneOf number rest ⊎ (last ≡ number) → IsOneOf number (other ∷ rest) ⊎ (last ≡ number)
    by (inl is) = inl (inr is)
    by (inr same) = inr same

-- a new number comes after the others, where those that it leads to are among them
pub come_after_more : (links : List (List ℕ)) (before order : List ℕ) (number : ℕ) → ComeAfter links before order
    → (IsOneOf number (before ++ order) → ⊥) → AllOf (λ next. IsOneOf next (before ++ order)) (row links number)
    → ComeAfter links before (order ++ number ∷ [])
come_after_more links before [] number after new each = (
  rw append-nil at new,
  rw append-nil at each,
  tt,
)
come_after_more links before (first ∷ rest) number after new each =
    let same : (before ++ first ∷ []) ++ rest ≡ before ++ first ∷ rest = append_assoc before (first ∷ []) rest in (
      after.0,
      after.1,
      come_after_more links (before ++ first ∷ []) rest number after.2
          (subst (λ (all : List ℕ). IsOneOf number all → ⊥) (sym same) new)
          (subst (λ (all : List ℕ). AllOf (λ next. IsOneOf next all) (row links number)) (sym same) each),
    )
