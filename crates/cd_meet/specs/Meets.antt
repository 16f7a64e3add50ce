-- Meets of arrows, as formulas and as nodes.
use Rattle.std.specs.Prelude.{◌≡◌, ◌<◌, List, ◌∷◌, map, length}
use Rattle.cd_sets.specs.declared.node_id.NodeId.{NodeId}
use Rattle.cd_model.specs.AllOf.{AllOf}
use Rattle.cd_model.specs.BuiltIns.{EMPTY, ANY}
use Rattle.cd_model.specs.Formula.{Graph, Formula, Arrow, And, formulas_of, formula_at}

-- all functions, and the functions in each of these arrows
abbrev pub arrow_formula : NodeId × NodeId → Formula
arrow_formula arrow = Arrow arrow.0 arrow.1

abbrev pub arrow_formulas : List (NodeId × NodeId) → List Formula
arrow_formulas arrows = Arrow EMPTY ANY ∷ map arrow_formula arrows

-- the arrows are between nodes of the graph
abbrev pub AreNodes : Graph → List (NodeId × NodeId) → Type 0
AreNodes graph arrows =
    AllOf (λ arrow. (arrow.0.0 < length graph) × (arrow.1.0 < length graph)) arrows

-- the node is the meet of these
pub record IsMeet (graph : Graph) (arrows : List (NodeId × NodeId)) (id : NodeId) : Type 0 where
  pub is_node : id.0 < length graph
  pub formula : formula_at graph id ≡ And (formulas_of (arrow_formulas arrows))
