-- Environments as they are stored: each is a name with its value, and the environment around it.
use Rattle.std.specs.Prelude.{◌≡◌, ◌≤◌, ℕ, suc, List, [], ◌∷◌, ◌++◌}
use Rattle.std.specs.Prelude.{slice_index_or}
use Rattle.cd_cells.specs.declared.cell.Part.{Part}
use Rattle.cd_machine.specs.declared.environments.Node.{Node}

-- the environment of a number; one that names none is empty
abbrev pub parts_at : List (List Part) → ℕ → List Part
parts_at all number = slice_index_or all number []

-- the environments after more nodes
abbrev pub lists_from : List (List Part) → List Node → List (List Part)
lists_from all [] = all
lists_from all (node ∷ nodes) =
    lists_from (all ++ (node.part ∷ parts_at all node.around) ∷ []) nodes

-- the first one is empty
abbrev pub lists : List Node → List (List Part)
lists nodes = lists_from ([] ∷ []) nodes

-- what stands around a node has a lower number
abbrev pub AreOrdered : (number : ℕ) → List Node → Type 0
AreOrdered number [] = Unit {0}
AreOrdered number (node ∷ nodes) = (node.around ≤ number) × AreOrdered (suc number) nodes

-- more environments stand after those of old, which stay
pub record Longer (old new : List (List Part)) : Type 0 where
  pub more : List (List Part)
  pub is : new ≡ old ++ more
