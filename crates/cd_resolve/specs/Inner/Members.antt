-- The members of a union and of a meet, each once, and without those that change nothing.
use Rattle.std.specs.Prelude.{◌==◌, Bool, true, false, ◌&&◌, ◌||◌, List, [], ◌∷◌, ◌++◌}
use Rattle.std.specs.Prelude.{if◌then◌else◌}
use Rattle.std.specs.Bool.{beq}
use Rattle.std.specs.List.{list_any}
use Rattle.cd_sets.specs.declared.node_id.NodeId.{NodeId}
use Rattle.cd_model.specs.BuiltIns.{EMPTY, ANY}

abbrev pub same_node : NodeId → NodeId → Bool
same_node one other = one.0 == other.0

-- members after those that are there. What holds nothing adds nothing to a union
abbrev pub adds_nothing : List NodeId → NodeId → Bool
adds_nothing members id = same_node EMPTY id || list_any (same_node id) members

abbrev pub joined_to : List NodeId → List NodeId → List NodeId
joined_to members [] = members
joined_to members (id ∷ rest) =
    joined_to (if adds_nothing members id then members else members ++ id ∷ []) rest

abbrev pub union_of : List NodeId → List NodeId
union_of ids = joined_to [] ids

-- what holds everything, and what nothing is taken out of, takes nothing from a meet
abbrev pub Sign : Type 0
Sign = Bool × NodeId

abbrev pub same_sign : Sign → Sign → Bool
same_sign one other = beq one.0 other.0 && same_node one.1 other.1

abbrev pub takes_nothing : List Sign → Sign → Bool
takes_nothing signs sign = same_sign (true, ANY) sign || same_sign (false, EMPTY) sign
    || list_any (same_sign sign) signs

abbrev pub met_with : List Sign → List Sign → List Sign
met_with signs [] = signs
met_with signs (sign ∷ rest) =
    met_with (if takes_nothing signs sign then signs else signs ++ sign ∷ []) rest

abbrev pub meet_of : List Sign → List Sign
meet_of signs = met_with [] signs
