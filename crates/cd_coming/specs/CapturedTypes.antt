-- The types of what the variables of a pattern capture.
use Rattle.std.specs.Prelude.{◌≡◌, List, [], map, Some}
use Rattle.cd_sets.specs.declared.node_id.NodeId.{NodeId}
use Rattle.cd_syntax.specs.Name.{Name}
use Rattle.cd_syntax.specs.TypeTree.{Tree}
use Rattle.cd_model.specs.Formula.{Graph}
use Rattle.cd_model.specs.Scope.{Scope}
use Rattle.cd_model.specs.Thing.{Thing, IsElement}
use Rattle.cd_matching.specs.Captures.{Captures}
use Rattle.cd_meaning.specs.Sets.{Set}
use Rattle.cd_typing.specs.Branches.{IsFirst}
use Rattle.cd_typing.specs.Typ.{Typ, typ, In, Types, type_at}

abbrev pub type_of : Graph → Name × NodeId → Name × Typ
type_of graph one = (one.0, typ graph one.1)

-- names with nodes of a graph, as types
abbrev pub types_of : Graph → List (Name × NodeId) → Types
types_of graph names = map (type_of graph) names

-- each element of the type of a name is what that name captures from an element of the set
abbrev pub HoldNoMore : Scope → Types → (pattern : Tree) → (matched : Set) → Type 0
HoldNoMore scope types pattern matched = (name : Name) (t : Typ) (d : Thing)
    → type_at types name ≡ Some t → IsElement d → In t d
    → (e : Thing) × (captures : Captures Name) × IsFirst scope [] pattern matched e captures
    × (captures name ≡ Some d)
