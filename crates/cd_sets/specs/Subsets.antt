-- The subsets of a set of node numbers, in the order of binary counting: the least number is the
-- lowest digit.
use Rattle.std.specs.Prelude.{◌≡◌, List, [], ◌∷◌, Option, Some, None}
use Rattle.cd_sets.specs.declared.node_id.NodeId.{NodeId}

-- each of these without the number, and then with it
abbrev pub without_and_with : NodeId → List (List NodeId) → List (List NodeId)
without_and_with id [] = []
without_and_with id (set ∷ sets) = set ∷ (id ∷ set) ∷ without_and_with id sets

abbrev pub subsets_of : List NodeId → List (List NodeId)
subsets_of [] = [] ∷ []
subsets_of (id ∷ ids) = without_and_with id (subsets_of ids)

-- some of the numbers, in their order
pub data IsPart : List NodeId → List NodeId → Type 0 where
  nothing : IsPart [] []
  left_out : (id : NodeId) (part ids : List NodeId) → IsPart part ids → IsPart part (id ∷ ids)
  taken : (id : NodeId) (part ids : List NodeId) → IsPart part ids → IsPart (id ∷ part) (id ∷ ids)

-- what is found next where these were left, and what is left then
abbrev pub IsNext : Option (List NodeId) → List (List NodeId) → List (List NodeId) → Type 0
IsNext None before after = (before ≡ []) × (after ≡ [])
IsNext (Some set) before after = before ≡ set ∷ after
