-- Types: nodes, each with its graph. Types of different graphs are compared by their elements.
use Rattle.std.specs.Prelude.{◌≡◌, ◌<◌, ◌++◌, List, [], ◌∷◌, length, Option, Some, None, bytes_eq}
use Rattle.std.specs.Prelude.{if◌then◌else◌}
use Rattle.cd_sets.specs.declared.node_id.NodeId.{NodeId}
use Rattle.cd_syntax.specs.Name.{Name}
use Rattle.cd_model.specs.AllOf.{AllOf}
use Rattle.cd_model.specs.BuiltIns.{built_ins}
use Rattle.cd_model.specs.Formula.{Graph, IsGraph}
use Rattle.cd_model.specs.Thing.{Thing, IsElement}
use Rattle.cd_meaning.specs.Sets.{Set, ◌⊆◌, elements_of}

pub record Typ : Type 0 where
  pub graph : Graph
  pub id : NodeId

abbrev pub typ : Graph → NodeId → Typ
typ graph id = record { graph = graph; id = id }

-- its elements
abbrev pub In : Typ → Set
In t = elements_of t.graph t.id

-- the graph is sound and begins with the built-in nodes, and the node is one of it
pub record IsType (t : Typ) : Type 0 where
  pub more : Graph
  pub begins : t.graph ≡ built_ins ++ more
  pub sound : IsGraph t.graph
  pub is_node : t.id.0 < length t.graph

-- the elements of a built-in type
abbrev pub BuiltIn : NodeId → Set
BuiltIn id = elements_of built_ins id

-- the types of the names that an expression sees, the innermost first
abbrev pub Types : Type 0
Types = List (Name × Typ)

abbrev pub type_at : Types → Name → Option Typ
type_at [] name = None
type_at (first ∷ rest) name = if bytes_eq first.0 name then Some first.1 else type_at rest name

abbrev pub with_type : Option Name → Typ → Types → Types
with_type None t types = types
with_type (Some name) t types = (name, t) ∷ types

abbrev pub AreTypes : Types → Type 0
AreTypes types = AllOf (λ one. IsType one.1) types

-- elements of types, one of each
abbrev pub AreIn : List Typ → List Thing → Type 0
AreIn [] [] = Unit {0}
AreIn (t ∷ types) (d ∷ ds) = IsElement d × In t d × AreIn types ds
AreIn types ds = ⊥

-- each name that has a type there has a type within it here
abbrev pub AreNarrower : Types → Types → Type 0
AreNarrower types others = (name : Name) (t : Typ) → type_at others name ≡ Some t
    → (s : Typ) × (type_at types name ≡ Some s) × (In s ⊆ In t)
