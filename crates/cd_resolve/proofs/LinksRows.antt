-- The rows of equations, and that what they lead to has rows.
use Rattle.std.proofs.Common.{◌≡◌, ℕ, zero, suc, ◌+◌, ◌-◌, ◌<◌, ◌≤◌, inl, inr, Bool, true, false, List, [], ◌∷◌, map}
use Rattle.std.proofs.Common.{length, Option, Some, None, refl, sym, subst, ap, ◌∙◌, arith, if◌then◌else◌}
use Rattle.std.specs.Prelude.{nat_le}
use Rattle.std.specs.List.{slice_get}
use Rattle.std.specs.Option.{option_flatten}
use Rattle.std.proofs.lemmas.Bool.{leb-true, leb-false}
use Rattle.std.proofs.lemmas.List.{length-map}
use Rattle.cd_sets.specs.declared.node_id.NodeId.{NodeId}
use Rattle.cd_model.specs.AllOf.{AllOf}
use Rattle.cd_model.specs.BuiltIns.{node}
use Rattle.cd_model.proofs.Covered.{each_both}
use Rattle.cd_shared.specs.Equation.{Equation, Equations, Is, Same, And, Or}
use Rattle.cd_resolve.specs.Inner.Links.{number_at, numbers_of, numbers_under, links}
use Rattle.cd_resolve.specs.Inner.Order.{row, AreRows}
use Rattle.cd_resolve.specs.Inner.Solves.{IsNode, IsEquation, AreEquations}

-- the equation of a number, if there is one
abbrev pub found : Equations → ℕ → Option Equation
found equations number = option_flatten (slice_get equations number)

-- and where it is found
pub is_found : (equations : Equations) (number : ℕ) (equation : Equation)
    → slice_get equations number ≡ Some (Some equation) → found equations number ≡ Some equation
is_found equations number equation at = ap option_flatten at

pub found_at : (equations : Equations) (number : ℕ) (equation : Equation) → found equations number ≡ Some equation
    → slice_get equations number ≡ Some (Some equation)
found_at equations number equation at = by_found (slice_get equations number) at
  where
    by_found : (is : Option (Option Equation)) → option_flatten is ≡ Some equation → is ≡ Some (Some equation)
    by_found None same = absurd cc
    by_found (Some None) same = absurd cc
    by_found (Some (Some one)) same = ap Some same

-- the row of a number is made of its equation
pub row_of_found : (first : ℕ) (equations : Equations) (number : ℕ)
    → row (links first equations) number ≡ numbers_under first (found equations number)
row_of_found first [] number = refl
row_of_found first (None ∷ equations) zero = refl
row_of_found first (Some equation ∷ equations) zero = refl
row_of_found first (one ∷ equations) (suc number) = row_of_found first equations number

pub row_of_equation : (first : ℕ) (equations : Equations) (number : ℕ) (equation : Equation)
    → slice_get equations number ≡ Some (Some equation)
    → row (links first equations) number ≡ numbers_under first (Some equation)
row_of_equation first equations number equation at =
    row_of_found first equations number ∙ ap (numbers_under first) (is_found equations number equation at)

pub row_of_none : (first : ℕ) (equations : Equations) (number : ℕ) → slice_get equations number ≡ Some None
    → row (links first equations) number ≡ []
row_of_none first equations number at =
    row_of_found first equations number ∙ ap (λ is. numbers_under first (option_flatten is)) at

-- a fact of the number of a node, if it has one
pub number_is : (first : ℕ) (Fact : ℕ → Type 0) (id : NodeId) → ((number : ℕ) → first + number ≡ id.0 → Fact number)
    → AllOf Fact (number_at first id)
number_is first Fact id fact = by_test (nat_le first id.0) refl
  where
    by_test : (test : Bool) → nat_le first id.0 ≡ test → AllOf Fact (if test then (id.0 - first) ∷ [] else [])
    by_test true is = let fits = leb-true first id.0 is in (fact (id.0 - first) (omega arith), tt)
    by_test false is = tt

-- the node of a number has this number alone
pub has_number : (first : ℕ) (Fact : ℕ → Type 0) (number : ℕ) → AllOf Fact (number_at first (node (first + number)))
    → Fact number
has_number first Fact number each = by_test (nat_le first (first + number)) refl each
  where
    by_test : (test : Bool) → nat_le first (first + number) ≡ test
        → AllOf Fact (if test then (first + number - first) ∷ [] else []) → Fact number
    by_test true is each = let same : first + number - first ≡ number = omega arith in subst Fact same each.0
    by_test false is each = let less = leb-false first (first + number) is in absurd (omega arith)

module _ (nodes first count : ℕ) (old : nodes ≤ first) where
  -- what nodes lead to is below the count
  number_below : (id : NodeId) → IsNode nodes first count id → AllOf (λ next. next < count) (number_at first id)
  number_below id is = number_is first (λ next. next < count) id (by_node is)
    where
      by_node : IsNode nodes first count id → (number : ℕ) → first + number ≡ id.0 → number < count
      by_node (inl small) number same = absurd (omega arith)
      by_node (inr own) number same = let top = own.1 in omega arith

  numbers_below : (ids : List NodeId) → AllOf (IsNode nodes first count) ids
      → AllOf (λ next. next < count) (numbers_of first ids)
  numbers_below [] are = tt
  numbers_below (id ∷ ids) are = each_both (λ next. next < count) (number_at first id) (numbers_of first ids)
      (number_below id are.0) (numbers_below ids are.1)

  signs_below : (signs : List (Bool × NodeId))
      → AllOf (λ (sign : Bool × NodeId). IsNode nodes first count sign.1) signs
      → AllOf (λ next. next < count) (numbers_of first (map (λ sign. sign.1) signs))
  signs_below [] are = tt
  signs_below (sign ∷ signs) are = each_both (λ next. next < count) (number_at first sign.1)
      (numbers_of first (map (λ sign. sign.1) signs)) (number_below sign.1 are.0) (signs_below signs are.1)

  under_below : (equation : Option Equation)
      → ((is : Equation) → equation ≡ Some is → IsEquation nodes first count is)
      → AllOf (λ next. next < count) (numbers_under first equation)
  under_below None are = tt
  under_below (Some (Is formula)) are = tt
  under_below (Some (Same id)) are = number_below id (are (Same id) refl)
  under_below (Some (And signs)) are = signs_below signs (are (And signs) refl)
  under_below (Some (Or ids)) are = numbers_below ids (are (Or ids) refl)

-- there is a row for each equation
pub links_length : (first : ℕ) (equations : Equations) → length (links first equations) ≡ length equations
links_length first equations = length-map equations (numbers_under first)

-- each number in a row has a row
pub are_rows : (nodes first : ℕ) (equations : Equations) → nodes ≤ first → AreEquations nodes first equations
    → AreRows (links first equations)
are_rows nodes first equations old sound number =
    subst (λ (count : ℕ). AllOf (λ next. next < count) (row (links first equations) number))
    (sym (links_length first equations))
    (subst (AllOf (λ next. next < length equations)) (sym (row_of_found first equations number))
    (under_below nodes first (length equations) old (found equations number)
    (λ is same. sound.each number is (found_at equations number is same))))
