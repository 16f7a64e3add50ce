-- Differences of nodes.
use Rattle.std.specs.Prelude.{◌<◌, ◌≤◌, ◌↔◌, ℕ, true, false, List, [], ◌∷◌, length, Option, Some}
use Rattle.std.specs.Prelude.{None}
use Rattle.cd_sets.specs.declared.node_id.NodeId.{NodeId}
use Rattle.cd_model.specs.AllOf.{AllOf}
use Rattle.cd_model.specs.BuiltIns.{node}
use Rattle.cd_model.specs.Formula.{Graph, Formula, IsFormula, formulas_of, in_node}
use Rattle.cd_model.specs.Membership.{holds, one_holds, reader}
use Rattle.cd_model.specs.Thing.{Thing, IsElement}

-- a node of the new graph holds exactly the elements that are in the one node and outside the other
pub record IsDifference (old : Graph) (one other : NodeId) (new : Graph) (id : NodeId) : Type 0
  where
    pub is_node : id.0 < length new
    pub elements : (e : Thing) → IsElement e → in_node new e id true
        ↔ (in_node old e one true × in_node old e other false)

-- so of a union of some formulas
pub record IsLeftOver (old : Graph) (members : List Formula) (other : NodeId) (new : Graph)
    (id : NodeId) : Type 0 where
  pub is_node : id.0 < length new
  pub elements : (e : Thing) → IsElement e → in_node new e id true
      ↔ (one_holds (reader old e) (formulas_of members) true × in_node old e other false)

abbrev pub formulas_in : Option Formula → List Formula
formulas_in None = []
formulas_in (Some f) = f ∷ []

module _ (graph : Graph) where
  -- so does a formula, or no element is in the one node and outside the other
  abbrev pub IsRest : (one other : NodeId) → Option Formula → Type 0
  IsRest one other None = (e : Thing) → IsElement e → in_node graph e one true
      → in_node graph e other false → ⊥
  IsRest one other (Some f) = IsFormula (length graph) f × ((e : Thing) → IsElement e
      → holds (reader graph e) f true
      ↔ (in_node graph e one true × in_node graph e other false))

  -- one of some formulas holds what is in one of the nodes between two numbers and outside another
  pub record AreLeft (other : NodeId) (first last : ℕ) (all : List Formula) : Type 0 where
    pub sound : AllOf (IsFormula (length graph)) all
    pub elements : (e : Thing) → IsElement e → one_holds (reader graph e) (formulas_of all) true
        ↔ ((number : ℕ) × (first ≤ number) × (number < last)
        × in_node graph e (node number) true × in_node graph e other false)
