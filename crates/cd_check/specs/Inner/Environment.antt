-- The nodes of the names that an expression sees, and what is given in their place.
use Rattle.std.specs.Prelude.{◌≡◌, ◌<◌, List, [], ◌∷◌, length, Option, Some, None, bytes_eq}
use Rattle.std.specs.Prelude.{if◌then◌else◌}
use Rattle.cd_sets.specs.declared.node_id.NodeId.{NodeId}
use Rattle.cd_syntax.specs.Name.{Name}
use Rattle.cd_model.specs.AllOf.{AllOf}
use Rattle.cd_model.specs.Formula.{Graph}
use Rattle.cd_meaning.specs.Sets.{Set, ◌⊆◌}
use Rattle.cd_typing.specs.Typ.{Typ, typ, In, IsType, Types}

-- names with their nodes, the innermost first
abbrev pub Nodes : Type 0
Nodes = List (Name × NodeId)

abbrev pub node_at : Nodes → Name → Option NodeId
node_at [] name = None
node_at (first ∷ rest) name = if bytes_eq first.0 name then Some first.1 else node_at rest name

-- names with nodes, one by one
abbrev pub declared : List Name → List NodeId → Nodes
declared (name ∷ names) (id ∷ ids) = (name, id) ∷ declared names ids
declared names ids = []

-- a name with a node, if there is one, before others
abbrev pub with_node : Option Name → NodeId → Nodes → Nodes
with_node None id nodes = nodes
with_node (Some name) id nodes = (name, id) ∷ nodes

-- both hold the same elements
pub record AreSame (one other : Set) : Type 0 where
  pub within : one ⊆ other
  pub whole : other ⊆ one

-- the types are those of the nodes
abbrev pub AreOfTypes : Graph → Nodes → Types → Type 0
AreOfTypes graph [] [] = Unit {0}
AreOfTypes graph (node ∷ nodes) (type ∷ types) = (node.0 ≡ type.0)
    × AreSame (In (typ graph node.1)) (In type.1) × AreOfTypes graph nodes types
AreOfTypes graph nodes types = ⊥

-- they are nodes of the graph
abbrev pub AreNodes : Graph → List NodeId → Type 0
AreNodes graph ids = AllOf (λ id. id.0 < length graph) ids

abbrev pub AreNodesOf : Graph → Nodes → Type 0
AreNodesOf graph nodes = AllOf (λ node. node.1.0 < length graph) nodes

-- in the new graph the node is a type with this fact, whatever types the nodes of the old one are
-- of
pub record Gives (old : Graph) (nodes : Nodes) (new : Graph) (fact : Types → Typ → Type 0)
    (id : NodeId) : Type 0 where
  pub is_type : IsType (typ new id)
  pub has : (types : Types) → AreOfTypes old nodes types → fact types (typ new id)
