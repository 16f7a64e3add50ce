-- Arrows between nodes of a graph.
use Rattle.std.specs.Prelude.{List, map}
use Rattle.cd_sets.specs.declared.node_id.NodeId.{NodeId}
use Rattle.cd_model.specs.Formula.{Graph}
use Rattle.cd_typing.specs.Typ.{typ}
use Rattle.cd_typing.specs.Interfaces.{Arrow}

abbrev pub arrow_of : Graph → NodeId × NodeId → Arrow
arrow_of graph arrow = record { argument = typ graph arrow.0; result = typ graph arrow.1 }

abbrev pub arrows_of : Graph → List (NodeId × NodeId) → List Arrow
arrows_of graph = map (arrow_of graph)
