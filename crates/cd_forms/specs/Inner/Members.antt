-- The members of a union.
use Rattle.std.specs.Prelude.{◌==◌, ◌&&◌, ◌||◌, not, Bool, false, List, [], ◌∷◌}
use Rattle.cd_sets.specs.declared.node_id.NodeId.{NodeId}

-- a node other than EMPTY, and one of these other than EMPTY
abbrev pub is_same : (part id : NodeId) → Bool
is_same part id = not (part.0 == 0) && (id.0 == part.0)

abbrev pub is_member : List NodeId → NodeId → Bool
is_member [] id = false
is_member (part ∷ parts) id = is_same part id || is_member parts id
