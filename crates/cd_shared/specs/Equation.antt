-- Equations, as plain data: what a node holds, by what other nodes hold.
use Rattle.std.specs.Prelude.{Bool, List, Option, map}
use Rattle.std.specs.Option.{option_map}
use Rattle.cd_sets.specs.declared.node_id.NodeId.{NodeId}
use Rattle.cd_model.specs.Formula.{Formula}
use Rattle.cd_graph.specs.PlainFormula.{plain}
use Rattle.cd_shared.specs.declared.equation.Equation.{Equation as CodeEquation}
use Rattle.cd_shared.specs.declared.equation.Equation.TheVariants as code

pub data Equation : Type 0 where
  -- this formula
  Is : Formula → Equation
  -- what this node holds
  Same : NodeId → Equation
  -- what is in each node with true, and in none with false
  And : List (Bool × NodeId) → Equation
  -- what is in one of these nodes
  Or : List NodeId → Equation

-- those of nodes that follow one another; a declared name whose tree is not read yet has none
abbrev pub Equations : Type 0
Equations = List (Option Equation)

-- the plain equation of one of the code
abbrev pub plain_equation : CodeEquation → Equation
plain_equation (code.Is formula) = Is (plain formula)
plain_equation (code.Same id) = Same id
plain_equation (code.And signs) = And signs.items
plain_equation (code.Or ids) = Or ids.items

abbrev pub plain_equations : List (Option CodeEquation) → Equations
plain_equations equations = map (option_map plain_equation) equations
