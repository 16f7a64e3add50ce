-- The subsets from some binary count on, with a digit for each number and the lowest digit first.
use Rattle.std.specs.Prelude.{Bool, true, false, List, [], ◌∷◌, Option, Some, None}
use Rattle.std.specs.Option.{option_map}
use Rattle.cd_sets.specs.declared.node_id.NodeId.{NodeId}
use Rattle.cd_sets.specs.Subsets.{without_and_with}

-- the numbers at whose digits there is a one
abbrev pub chosen_of : List NodeId → List Bool → List NodeId
chosen_of [] digits = []
chosen_of (id ∷ ids) [] = []
chosen_of (id ∷ ids) (false ∷ digits) = chosen_of ids digits
chosen_of (id ∷ ids) (true ∷ digits) = id ∷ chosen_of ids digits

-- the digits of the next count, if they suffice for it
abbrev pub next_digits : List Bool → Option (List Bool)
next_digits [] = None
next_digits (false ∷ digits) = Some (true ∷ digits)
next_digits (true ∷ digits) = option_map (λ rest. false ∷ rest) (next_digits digits)

-- each of these without the number and with it, where the first without it is past already if the
-- digit is a one
abbrev pub from_digit : NodeId → Bool → List (List NodeId) → List (List NodeId)
from_digit id false sets = without_and_with id sets
from_digit id true [] = []
from_digit id true (set ∷ sets) = (id ∷ set) ∷ without_and_with id sets

abbrev pub subsets_from : List NodeId → List Bool → List (List NodeId)
subsets_from [] digits = [] ∷ []
subsets_from (id ∷ ids) [] = []
subsets_from (id ∷ ids) (digit ∷ digits) = from_digit id digit (subsets_from ids digits)

-- the subsets that are left, if any is
abbrev pub left_from : List NodeId → Option (List Bool) → List (List NodeId)
left_from ids None = []
left_from ids (Some digits) = subsets_from ids digits

-- the digits that are left, if any subset is
abbrev pub digits_left : Bool → List Bool → Option (List Bool)
digits_left false digits = None
digits_left true digits = Some digits
