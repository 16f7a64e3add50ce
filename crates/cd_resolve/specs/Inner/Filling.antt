-- How the formulas of equations are made one after another, each of those that it reads.
use Rattle.std.specs.Prelude.{◌≡◌, ℕ, ◌-◌, List, [], ◌∷◌, map, Option, Some, None, nat_le}
use Rattle.std.specs.Prelude.{if◌then◌else◌, slice_set}
use Rattle.std.specs.List.{slice_get}
use Rattle.std.specs.Option.{option_flatten}
use Rattle.cd_sets.specs.declared.node_id.NodeId.{NodeId}
use Rattle.cd_model.specs.BuiltIns.{node}
use Rattle.cd_model.specs.Formula.{Graph, Formula, Nothing, formula_at}
use Rattle.cd_shared.specs.Equation.{Equation, Equations, Is}
use Rattle.cd_resolve.specs.Inner.Links.{links}
use Rattle.cd_resolve.specs.Inner.Order.{IsOrder}
use Rattle.cd_resolve.specs.Inner.Solves.{made}

-- the formula that an equation gives at once, and the equation that is left where it gives none
abbrev pub at_once : Option Equation → Formula
at_once (Some (Is formula)) = formula
at_once equation = Nothing

abbrev pub left : Option Equation → Option Equation
left (Some (Is formula)) = None
left equation = equation

-- the first of the equations is that of the node of this number, and older nodes are those of a
-- graph
module _ (old : Graph) (first : ℕ) where
  -- the formula of a node, where these were made for the equations
  abbrev pub so_far : List Formula → NodeId → Formula
  so_far formulas id = if nat_le first id.0 then formula_at formulas (node (id.0 - first))
      else formula_at old id

  -- with the formula of an equation in its place, if there is one
  abbrev pub with_made : List Formula → ℕ → Option Equation → List Formula
  with_made formulas number None = formulas
  with_made formulas number (Some equation) =
      slice_set formulas number (made (so_far formulas) equation)

  -- the formulas after those of these numbers were put in their places in turn
  abbrev pub filled : Equations → List ℕ → List Formula → List Formula
  filled equations [] formulas = formulas
  filled equations (number ∷ order) formulas = filled equations order
      (with_made formulas number (option_flatten (slice_get equations number)))

  -- formulas that were made in an order of all numbers
  abbrev pub AreFilled : Equations → List Formula → Type 0
  AreFilled equations formulas = (order : List ℕ) × IsOrder (links first equations) order
      × (formulas ≡ filled (map left equations) order (map at_once equations))
