-- Names that have nodes, as a list of pairs.
use Rattle.std.specs.Prelude.{◌≡◌, ℕ, ◌+◌, ◌<◌, List, [], ◌∷◌, Option, Some, None, bytes_eq}
use Rattle.std.specs.Prelude.{if◌then◌else◌}
use Rattle.cd_sets.specs.declared.node_id.NodeId.{NodeId}
use Rattle.cd_syntax.specs.Name.{Name}
use Rattle.cd_syntax.specs.TypeTree.{Declarations, NoDeclaration, ADeclaration}
use Rattle.cd_model.specs.BuiltIns.{node}
use Rattle.cd_model.specs.Formula.{Graph}
use Rattle.cd_model.specs.Scope.{tree_in}
use Rattle.cd_resolve.specs.Named.{IsNamed}

-- the node of a name: of the first that is this one
abbrev pub node_of : List (Name × NodeId) → Name → Option NodeId
node_of [] name = None
node_of (named ∷ names) name = if bytes_eq named.0 name then Some named.1 else node_of names name

-- the declared names with nodes that follow one another
abbrev pub numbered : ℕ → Declarations → List (Name × NodeId)
numbered first NoDeclaration = []
numbered first (ADeclaration name at is rest) = (name, node first) ∷ numbered (first + 1) rest

-- each name that is declared has a node, which stands for its type, and another has none
abbrev pub AreNamed : Graph → Declarations → List (Name × NodeId) → Type 0
AreNamed graph declarations names = (name : Name)
    → IsNamed graph declarations name (tree_in declarations name) (node_of names name)

-- the nodes of these names are among so many
abbrev pub AreBelow : (nodes : ℕ) → List (Name × NodeId) → Type 0
AreBelow nodes names = (name : Name) (id : NodeId) → node_of names name ≡ Some id → id.0 < nodes
