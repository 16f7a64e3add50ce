-- The formulas of arrows between nodes.
use Rattle.std.specs.Prelude.{List, map}
use Rattle.cd_sets.specs.declared.node_id.NodeId.{NodeId}
use Rattle.cd_model.specs.Formula.{Formula, Arrow}

abbrev pub arrow_formula : NodeId × NodeId → Formula
arrow_formula arrow = Arrow arrow.0 arrow.1

abbrev pub arrow_formulas : List (NodeId × NodeId) → List Formula
arrow_formulas = map arrow_formula
