-- What it is for a graph to solve equations.
use Rattle.std.specs.Prelude.{◌≡◌, ℕ, ◌+◌, ◌<◌, ◌≤◌, ◌⊎◌, ◌++◌, Bool, true, false, List, map}
use Rattle.std.specs.Prelude.{length, Some}
use Rattle.std.specs.List.{slice_get}
use Rattle.cd_sets.specs.declared.node_id.NodeId.{NodeId}
use Rattle.cd_model.specs.AllOf.{AllOf}
use Rattle.cd_model.specs.BuiltIns.{node}
use Rattle.cd_model.specs.Formula as formula
use Rattle.cd_model.specs.Formula.{Graph, Formula, IsFormula, formula_at, formulas_of}
use Rattle.cd_shared.specs.Shared.{IsImage}
use Rattle.cd_shared.specs.Equation.{Equation, Equations, Is, Same, And, Or}

-- a formula, or what is not in it
abbrev pub signed : Bool → Formula → Formula
signed true is = is
signed false is = formula.Not is

-- the formula that an equation gives, where nodes have these formulas
abbrev pub made : (NodeId → Formula) → Equation → Formula
made formula_of (Is is) = is
made formula_of (Same id) = formula_of id
made formula_of (And signs) =
    formula.And (formulas_of (map (λ sign. signed sign.0 (formula_of sign.1)) signs))
made formula_of (Or ids) = formula.Or (formulas_of (map formula_of ids))

-- the nodes from this number on have the formulas that their equations give
pub record Solves (graph : Graph) (first : ℕ) (equations : Equations) : Type 0 where
  pub each : (number : ℕ) (equation : Equation)
      → slice_get equations number ≡ Some (Some equation)
      → formula_at graph (node (first + number)) ≡ made (formula_at graph) equation

-- a node is one of the first so many, or has an equation
abbrev pub IsNode : (nodes first count : ℕ) → NodeId → Type 0
IsNode nodes first count id = (id.0 < nodes) ⊎ (first ≤ id.0) × (id.0 < first + count)

-- an equation over such nodes
abbrev pub IsEquation : (nodes first count : ℕ) → Equation → Type 0
IsEquation nodes first count (Is formula) = IsFormula (first + count) formula
IsEquation nodes first count (Same id) = IsNode nodes first count id
IsEquation nodes first count (And signs) = AllOf (λ sign. IsNode nodes first count sign.1) signs
IsEquation nodes first count (Or ids) = AllOf (IsNode nodes first count) ids

pub record AreEquations (nodes first : ℕ) (equations : Equations) : Type 0 where
  pub each : (number : ℕ) (equation : Equation)
      → slice_get equations number ≡ Some (Some equation)
      → IsEquation nodes first (length equations) equation

-- a graph whose first nodes have the formulas of this one
abbrev pub AgreesWith : (old graph : Graph) → Type 0
AgreesWith old graph = (id : NodeId) → id.0 < length old → formula_at old id ≡ formula_at graph id

-- Formulas in which equal nodes are named by one number, and formulas that solve the equations: put
-- after a graph of so many nodes that agrees with the old one, the nodes of both hold the same
pub record IsSolution (old : Graph) (first : ℕ) (equations : Equations) (class : NodeId → NodeId)
    (batch : List Formula) : Type 0 where
  pub formulas : List Formula
  pub number : length formulas ≡ length equations
  pub below : (id : NodeId) → id.0 < first + length equations
      → (class id).0 < first + length equations
  pub solves : (graph : Graph) → length graph ≡ first → AgreesWith old graph
      → Solves (graph ++ formulas) first equations
  pub image : (graph : Graph) → length graph ≡ first → AgreesWith old graph
      → IsImage class (graph ++ formulas) (graph ++ batch)
