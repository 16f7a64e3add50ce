-- The nodes that walks give are first nodes or have equations, and the equations that are made stay bounded.
use Rattle.std.proofs.Common.{◌≡◌, ℕ, zero, suc, ◌+◌, ◌<◌, ◌≤◌, ◌⊎◌, inl, inr, List, [], ◌∷◌, ◌++◌, map, set, Some}
use Rattle.std.proofs.Common.{subst, arith}
use Rattle.std.specs.List.{slice_get}
use Rattle.cd_sets.specs.declared.node_id.NodeId.{NodeId}
use Rattle.cd_syntax.specs.Name.{Name}
use Rattle.cd_model.specs.AllOf.{AllOf}
use Rattle.cd_model.specs.Formula.{Formula, IsFormula}
use Rattle.cd_resolve.specs.Inner.Names.{AreBelow}
use Rattle.cd_shared.specs.Equation.{Equation, Equations, Is, Same}
use Rattle.cd_resolve.specs.Inner.Solves.{IsNode, IsEquation}
use Rattle.cd_resolve.specs.Inner.Walk.{Read, unread, settled}
use Rattle.cd_resolve.proofs.NodesOfWalks.{IsOfNodes}

-- one of the first nodes, or one that has an equation, is such a node among more equations
node_among_more : (nodes first count more : ℕ) (id : NodeId) → count ≤ more → IsNode nodes first count id
    → IsNode nodes first more id
node_among_more nodes first count more id longer (inl is) = inl is
node_among_more nodes first count more id longer (inr is) = inr (is.0, omega arith)

node_below : (nodes first count : ℕ) (id : NodeId) → nodes ≤ first → IsNode nodes first count id → id.0 < first + count
node_below nodes first count id fits (inl is) = omega arith
node_below nodes first count id fits (inr is) = is.1

-- the nodes of walks are such nodes
pub are_nodes : (nodes first : ℕ) (names : List (Name × NodeId)) → 14 ≤ nodes → nodes ≤ first → AreBelow nodes names
    → IsOfNodes first names (IsNode nodes first)
are_nodes nodes first names enough fits named = record {
  grows = λ count more id longer is. node_among_more nodes first count more id longer is;
  built_in = λ count id is. inl (omega arith);
  named = λ count name id is. inl (named name id is);
  numbered = λ count number within. inr (omega arith, omega arith);
  below = λ count id is. node_below nodes first count id fits is;
}

-- what stands in one list after another stands in one of both
get_either : {X : Type 0} (xs ys : List X) (n : ℕ) (x : X) → slice_get (xs ++ ys) n ≡ Some x
    → (slice_get xs n ≡ Some x) ⊎ ((m : ℕ) × (slice_get ys m ≡ Some x))
get_either [] ys n x is = inr (n, is)
get_either (y ∷ xs) ys zero x is = inl is
get_either (y ∷ xs) ys (suc n) x is = get_either xs ys n x is

-- what stands in a list with one changed stands in the list, or is that one
get_changed : {X : Type 0} (xs : List X) (place : ℕ) (y : X) (n : ℕ) (x : X) → slice_get (set xs place y) n ≡ Some x
    → (slice_get xs n ≡ Some x) ⊎ (y ≡ x)
get_changed [] place y n x is = absurd cc
get_changed (z ∷ xs) zero y zero x is = inr cc
get_changed (z ∷ xs) zero y (suc n) x is = inl is
get_changed (z ∷ xs) (suc place) y zero x is = inl is
get_changed (z ∷ xs) (suc place) y (suc n) x is = get_changed xs place y n x is

-- equations over first nodes and over those of so many equations
pub record AreBounded (nodes first count : ℕ) (s : Equations) : Type 0 where
  pub each : (n : ℕ) (equation : Equation) → slice_get s n ≡ Some (Some equation)
      → IsEquation nodes first count equation

module _ (nodes first count : ℕ) where
  pub none_bounded : AreBounded nodes first count []
  none_bounded = record { each = λ n equation is. absurd cc }

  pub both_bounded : (s more : Equations) → AreBounded nodes first count s → AreBounded nodes first count more
      → AreBounded nodes first count (s ++ more)
  both_bounded s more one other =
      record { each = λ n equation is. by_list n equation (get_either s more n (Some equation) is) }
    where
      by_list : (n : ℕ) (equation : Equation)
          → (slice_get s n ≡ Some (Some equation)) ⊎ ((m : ℕ) × (slice_get more m ≡ Some (Some equation)))
          → IsEquation nodes first count equation
      by_list n equation (inl is) = one.each n equation is
      by_list n equation (inr is) = other.each is.0 equation is.1

  -- one more
  one_bounded : (equation : Equation) → IsEquation nodes first count equation
      → AreBounded nodes first count (Some equation ∷ [])
  one_bounded equation bounded = record { each = λ n other is. by_place n other is }
    where
      by_place : (n : ℕ) (other : Equation) → slice_get (Some equation ∷ []) n ≡ Some (Some other)
          → IsEquation nodes first count other
      by_place zero other is = let same : equation ≡ other = cc in subst (IsEquation nodes first count) same bounded
      by_place (suc n) other is = absurd cc

  pub pushed_bounded : (equation : Equation) (s : Equations) → AreBounded nodes first count s
      → IsEquation nodes first count equation → AreBounded nodes first count (s ++ Some equation ∷ [])
  pushed_bounded equation s are is = both_bounded s (Some equation ∷ []) are (one_bounded equation is)

  -- names whose trees are not read yet
  pub unread_bounded : (names : ℕ) → AreBounded nodes first count (unread names)
  unread_bounded names = record { each = λ n equation is. absurd (not_read names n equation is) }
    where
      not_read : (names n : ℕ) (equation : Equation) → slice_get (unread names) n ≡ Some (Some equation) → ⊥
      not_read zero n equation is = cc
      not_read (suc names) zero equation is = cc
      not_read (suc names) (suc n) equation is = not_read names n equation is

  -- and one whose tree is read
  pub settled_bounded : (number : ℕ) (one : Read) → AreBounded nodes first count one.1 → IsNode nodes first count one.0
      → AreBounded nodes first count (settled number one)
  settled_bounded number one are is =
      record { each = λ n equation there. by_place n equation (get_changed one.1 number (Some (Same one.0)) n _ there) }
    where
      by_place : (n : ℕ) (equation : Equation)
          → (slice_get one.1 n ≡ Some (Some equation)) ⊎ (Some (Same one.0) ≡ Some equation)
          → IsEquation nodes first count equation
      by_place n equation (inl there) = are.each n equation there
      by_place n equation (inr same) =
          let equal : Same one.0 ≡ equation = cc in subst (IsEquation nodes first count) equal is

  -- formulas
  pub formulas_bounded : (formulas : List Formula) → AllOf (IsFormula (first + count)) formulas
      → AreBounded nodes first count (map (λ (formula : Formula). Some (Is formula)) formulas)
  formulas_bounded formulas each = record { each = λ n equation is. by_formulas formulas each n equation is }
    where
      by_formulas : (formulas : List Formula) → AllOf (IsFormula (first + count)) formulas
          → (n : ℕ) (equation : Equation)
          → slice_get (map (λ (formula : Formula). Some (Is formula)) formulas) n ≡ Some (Some equation)
          → IsEquation nodes first count equation
      by_formulas [] each n equation is = absurd cc
      by_formulas (formula ∷ rest) each zero equation is =
          let same : Is formula ≡ equation = cc in subst (IsEquation nodes first count) same each.0
      by_formulas (formula ∷ rest) each (suc n) equation is = by_formulas rest each.1 n equation is
