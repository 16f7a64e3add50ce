-- Nodes that are made for a variable hold what is given at the places that are reached: elements,
-- and values in each longer graph.
use Rattle.std.proofs.Common.{ℕ, ◌++◌, refl}
use Rattle.cd_sets.specs.declared.node_id.NodeId.{NodeId}
use Rattle.cd_model.specs.Formula.{Graph, IsGraph, in_node, nodes}
use Rattle.cd_model.specs.Interfaces.{Interfaces, admits, value_in_node}
use Rattle.cd_model.specs.Thing.{IsElement, IsValue}
use Rattle.cd_model.specs.Types.{no_closure, closure_maps}
use Rattle.cd_model.proofs.Ones.{each_weaker}
use Rattle.cd_products.specs.Products.{AreInterfacesOf}
use Rattle.cd_filter.specs.CapturedFormulas.{captured_formula, IsStepFormula}
use Rattle.cd_filter.specs.CapturedNodes.{IsNodeOf, AreNodes}
use Rattle.cd_filter.specs.Table.{Place, Table}
use Rattle.cd_filter.proofs.FormulasHold.{formula_gives}
use Rattle.cd_explored.specs.CaptureNodes.{IsFormulaOf, IsCaptureNode, AreCaptureNodes}
use Rattle.cd_explored.proofs.NodesStay.{formula_stays}

module _ (graph : Graph) (variable : ℕ) (id : Place → NodeId) (table : Table) where
  element_node : (place : Place) → IsCaptureNode graph variable id table place
      → IsNodeOf (in_node graph) IsElement table variable id place
  element_node place it = formula_gives graph no_closure IsElement variable id table place
      it.entries it.formula_is
      (each_weaker (IsFormulaOf graph variable id)
      (IsStepFormula graph no_closure IsElement variable id) (λ entry is. is.elements) it.entries
      it.formulas)
      it.reached

  pub element_nodes : (root : Place) → AreCaptureNodes graph variable id table root
      → AreNodes (in_node graph) IsElement table variable root id
  element_nodes root are = record {
    of_root = element_node root are.of_root;
    gathered = λ place next item has. element_node next (are.gathered place next item has);
  }

  module _ (more : Graph) (interfaces : Interfaces) (sound : IsGraph (graph ++ more))
      (of_graph : AreInterfacesOf (graph ++ more) interfaces) where
    abbrev longer : Graph
    longer = graph ++ more

    value_node : (place : Place) → IsCaptureNode graph variable id table place
        → IsNodeOf (value_in_node longer interfaces) IsValue table variable id place
    value_node place it = formula_gives longer (closure_maps (nodes longer) (admits interfaces))
        IsValue variable id table place it.entries
        (formula_stays graph more (id place).0 (captured_formula it.entries) it.formula_is refl)
        (each_weaker (IsFormulaOf graph variable id)
        (IsStepFormula longer (closure_maps (nodes longer) (admits interfaces)) IsValue variable id)
        (λ entry is. is.values more interfaces sound of_graph) it.entries it.formulas)
        it.reached

    pub value_nodes : (root : Place) → AreCaptureNodes graph variable id table root
        → AreNodes (value_in_node longer interfaces) IsValue table variable root id
    value_nodes root are = record {
      of_root = value_node root are.of_root;
      gathered = λ place next item has. value_node next (are.gathered place next item has);
    }
