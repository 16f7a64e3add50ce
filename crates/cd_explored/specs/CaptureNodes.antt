-- Nodes of a graph that are made for a variable: one for the place where a table begins, and one
-- for each place whose things the variable gathers.
use Rattle.std.specs.Prelude.{◌≡◌, ◌++◌, ℕ, List, Some}
use Rattle.std.specs.List.{slice_get}
use Rattle.cd_sets.specs.declared.node_id.NodeId.{NodeId}
use Rattle.cd_sets.specs.declared.question.Question.{Question}
use Rattle.cd_model.specs.AllOf.{AllOf}
use Rattle.cd_model.specs.Formula.{Graph, IsGraph, formula_at, nodes}
use Rattle.cd_model.specs.Interfaces.{Interfaces, admits}
use Rattle.cd_model.specs.Thing.{IsElement, IsValue}
use Rattle.cd_model.specs.Types.{no_closure, closure_maps}
use Rattle.cd_products.specs.Products.{AreInterfacesOf}
use Rattle.cd_filter.specs.CapturedFormulas.{Entry, captured_formula, AreReached, IsStepFormula}
use Rattle.cd_filter.specs.Table.{Place, Gathers, Table, HasStep}

module _ (graph : Graph) (variable : ℕ) (id : Place → NodeId) where
  -- the formula of an entry holds what its step gives: of elements, and of values in each longer
  -- graph, under the interfaces of that graph
  pub record IsFormulaOf (entry : Entry) : Type 0 where
    pub elements : IsStepFormula graph no_closure IsElement variable id entry
    pub values : (more : Graph) (interfaces : Interfaces) → IsGraph (graph ++ more)
        → AreInterfacesOf (graph ++ more) interfaces
        → IsStepFormula (graph ++ more) (closure_maps (nodes (graph ++ more)) (admits interfaces))
        IsValue variable id entry

  module _ (table : Table) where
    -- the node of a place has the union of formulas of what is reached from there
    pub record IsCaptureNode (place : Place) : Type 0 where
      pub entries : List Entry
      pub formula_is : formula_at graph (id place) ≡ captured_formula entries
      pub reached : AreReached table variable place entries
      pub formulas : AllOf IsFormulaOf entries

    pub record AreCaptureNodes (root : Place) : Type 0 where
      pub of_root : IsCaptureNode root
      pub gathered : (place next : Place) (item : Question)
          → HasStep table place (Gathers variable item next) → IsCaptureNode next

-- a node for each variable, which is that of the first place
abbrev pub AreNodesOfVariables : Graph → Table → (root : Place) → (ids : List NodeId) → Type 0
AreNodesOfVariables graph table root ids = (variable : ℕ) (one : NodeId)
    → slice_get ids variable ≡ Some one
    → (id : Place → NodeId) × (id root ≡ one) × AreCaptureNodes graph variable id table root
