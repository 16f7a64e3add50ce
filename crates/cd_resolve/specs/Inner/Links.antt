-- Which formulas are copied into which, by the numbers of equations.
use Rattle.std.specs.Prelude.{ℕ, ◌-◌, List, [], ◌∷◌, ◌++◌, map, Option, Some, nat_le}
use Rattle.std.specs.Prelude.{if◌then◌else◌}
use Rattle.cd_sets.specs.declared.node_id.NodeId.{NodeId}
use Rattle.cd_shared.specs.Equation.{Equation, Equations, Same, And, Or}

-- The first equation is that of the node of this number
module _ (first : ℕ) where
  -- the number of a node's equation, if it has one
  abbrev pub number_at : NodeId → List ℕ
  number_at id = if nat_le first id.0 then (id.0 - first) ∷ [] else []

  abbrev pub numbers_of : List NodeId → List ℕ
  numbers_of [] = []
  numbers_of (id ∷ ids) = number_at id ++ numbers_of ids

  -- those that a connective or a name stands over; a formula names nodes alone
  abbrev pub numbers_under : Option Equation → List ℕ
  numbers_under (Some (Same id)) = number_at id
  numbers_under (Some (And signs)) = numbers_of (map (λ sign. sign.1) signs)
  numbers_under (Some (Or ids)) = numbers_of ids
  numbers_under equation = []

  abbrev pub links : Equations → List (List ℕ)
  links equations = map numbers_under equations
