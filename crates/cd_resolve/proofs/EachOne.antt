-- What is so of each of a list is so of one that is read of it, and of each where one is put in its place.
use Rattle.std.proofs.Common.{ℕ, zero, suc, ◌<◌, List, [], ◌∷◌, ◌++◌, length, get_or, set, inl, inr, arith}
use Rattle.cd_model.specs.AllOf.{AllOf}
use Rattle.cd_resolve.specs.Inner.Order.{IsOneOf}

-- one of them that is read at a number has the fact of each
pub each_got : (fact : ℕ → Type 0) (list : List ℕ) (index other : ℕ) → index < length list → AllOf fact list
    → fact (get_or list index other)
each_got fact [] index other below each = absurd (omega arith)
each_got fact (one ∷ rest) zero other below each = each.0
each_got fact (one ∷ rest) (suc index) other below each = each_got fact rest index other (omega arith) each.1

-- each is a fact where one is put in its place
pub each_set : {X : Type 0} (fact : X → Type 0) (list : List X) (index : ℕ) (is : X) → fact is → AllOf fact list
    → AllOf fact (set list index is)
each_set fact [] index is holds each = tt
each_set fact (one ∷ rest) zero is holds each = (holds, each.1)
each_set fact (one ∷ rest) (suc index) is holds each = (each.0, each_set fact rest index is holds each.1)

-- one of the first is one of both, and so is one of the others
pub one_of_first : (number : ℕ) (first later : List ℕ) → IsOneOf number first → IsOneOf number (first ++ later)
one_of_first number [] later one = absurd one
one_of_first number (other ∷ first) later (inl here) = inl here
one_of_first number (other ∷ first) later (inr one) = inr (one_of_first number first later one)

pub one_of_later : (number : ℕ) (first later : List ℕ) → IsOneOf number later → IsOneOf number (first ++ later)
one_of_later number [] later one = one
one_of_later number (other ∷ first) later one = inr (one_of_later number first later one)
