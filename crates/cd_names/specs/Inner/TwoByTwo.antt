-- Numbers of nodes two by two.
use Rattle.std.specs.Prelude.{List, [], ◌∷◌}
use Rattle.cd_sets.specs.declared.node_id.NodeId.{NodeId}

abbrev pub two_by_two : List NodeId → List (NodeId × NodeId)
two_by_two (first ∷ second ∷ rest) = (first, second) ∷ two_by_two rest
two_by_two rest = []
