-- Where all ways between numbers end, all of them have an order in which each comes after those that it leads to.
use Rattle.std.proofs.Common.{◌≡◌, ℕ, zero, suc, ◌<◌, ◌≤◌, ◌⊎◌, inl, inr, List, [], ◌∷◌, ◌++◌, length, refl, subst}
use Rattle.std.proofs.Common.{arith}
use Rattle.std.proofs.lemmas.Bool.{cases_eq}
use Rattle.cd_model.specs.AllOf.{AllOf}
use Rattle.cd_model.proofs.Ones.{each_of_lists}
use Rattle.cd_resolve.specs.Inner.Order.{IsOneOf, row, AreRows, IsShort, Ends, ComeAfter, IsOrder}
use Rattle.cd_resolve.proofs.EachOne.{one_of_first}
use Rattle.cd_resolve.proofs.Lists.{one_at_last, come_after_more}

-- a number is one of a list, or is none of it
neither : (number other : ℕ) (rest : List ℕ) → (other ≡ number → ⊥) → (IsOneOf number rest → ⊥)
    → IsOneOf number (other ∷ rest) → ⊥
neither number other rest differs none (inl same) = differs same
neither number other rest differs none (inr is) = none is

one_or_none : (number : ℕ) (list : List ℕ) → IsOneOf number list ⊎ (IsOneOf number list → ⊥)
one_or_none number [] = inr (λ none. none)
one_or_none number (other ∷ rest) = by (cases_eq other number) (one_or_none number rest)
  where
    by : (other ≡ number) ⊎ (other ≡ number → ⊥) → IsOneOf number rest ⊎ (IsOneOf number rest → ⊥)
        → IsOneOf number (other ∷ rest) ⊎ (IsOneOf number (other ∷ rest) → ⊥)
    by (inl same) later = inl (inl same)
    by (inr differs) (inl is) = inl (inr is)
    by (inr differs) (inr none) = inr (neither number other rest differs none)

module _ (links : List (List ℕ)) (rows : AreRows links) where
  -- an order of some of the numbers
  record IsOrderOfSome (order : List ℕ) : Type 0 where
    known : AllOf (λ number. number < length links) order
    after : ComeAfter links [] order

  -- one that has the numbers of another, and these
  record HasMore (order numbers : List ℕ) : Type 0 where
    more : List ℕ
    is : IsOrderOfSome more
    kept : (number : ℕ) → IsOneOf number order → IsOneOf number more
    there : AllOf (λ number. IsOneOf number more) numbers

  -- a number after those that it leads to
  put : (number : ℕ) → number < length links → (order : List ℕ) → HasMore order (row links number)
      → HasMore order (number ∷ [])
  put number below order before = by (one_or_none number before.more)
    where
      by : IsOneOf number before.more ⊎ (IsOneOf number before.more → ⊥) → HasMore order (number ∷ [])
      by (inl there) = record { more = before.more; is = before.is; kept = before.kept; there = (there, tt) }
      by (inr new) = record {
        more = before.more ++ number ∷ [];
        is = record {
          known = each_of_lists (λ number. number < length links) before.more (number ∷ []) before.is.known (below, tt);
          after = come_after_more links [] before.more number before.is.after new before.there;
        };
        kept = λ other is. one_of_first other before.more (number ∷ []) (before.kept other is);
        there = (one_at_last before.more number number refl, tt);
      }

  -- numbers in turn, where each of them can be put
  module _ (Fact : ℕ → Type 0)
      (visit : (number : ℕ) → number < length links → Fact number → (order : List ℕ) → IsOrderOfSome order
      → HasMore order (number ∷ [])) where
    visit_each : (numbers : List ℕ) → AllOf (λ number. number < length links) numbers → AllOf Fact numbers
        → (order : List ℕ) → IsOrderOfSome order → HasMore order numbers
    visit_each [] below facts order is = record { more = order; is = is; kept = λ number one. one; there = tt }
    visit_each (number ∷ rest) below facts order is =
        let first = visit number below.0 facts.0 order is in
        let all = visit_each rest below.1 facts.1 first.more first.is in
        record {
          more = all.more;
          is = all.is;
          kept = λ other one. all.kept other (first.kept other one);
          there = (all.kept number first.there.0, all.there);
        }

  -- a number from which no way is as long as this
  visit : (most : ℕ) (number : ℕ) → number < length links → IsShort links most number → (order : List ℕ)
      → IsOrderOfSome order → HasMore order (number ∷ [])
  visit zero number below short order is = elim short [ ]
  visit (suc most) number below short order is = put number below order
      (visit_each (IsShort links most) (visit most) (row links number) (rows number) short order is)

  module _ (ends : (number : ℕ) → number < length links → Ends links number) where
    -- an order that has the first so many numbers
    record HasFirst (count : ℕ) : Type 0 where
      order : List ℕ
      is : IsOrderOfSome order
      all : (number : ℕ) → number < count → IsOneOf number order

    one_more : (count : ℕ) → count < length links → HasFirst count → HasFirst (suc count)
    one_more count fits before = record {
      order = last.more;
      is = last.is;
      all = λ number below. by number below (cases_eq count number);
    }
      where
        short : Ends links count
        short = ends count fits

        last : HasMore before.order (count ∷ [])
        last = visit short.0 count fits short.1 before.order before.is

        by : (number : ℕ) → number < suc count → (count ≡ number) ⊎ (count ≡ number → ⊥) → IsOneOf number last.more
        by number below (inl same) = subst (λ number. IsOneOf number last.more) same last.there.0
        by number below (inr differs) = last.kept number (before.all number (omega (arith, below, differs)))

    has_first : (count : ℕ) → count ≤ length links → HasFirst count
    has_first zero fits = record {
      order = [];
      is = record { known = tt; after = tt };
      all = λ number below. absurd (omega arith);
    }
    has_first (suc count) fits = one_more count (omega arith) (has_first count (omega arith))

    pub has_order : (order : List ℕ) × IsOrder links order
    has_order = let all = has_first (length links) (omega arith) in
        (all.order, record { known = all.is.known; all = all.all; after = all.is.after })
