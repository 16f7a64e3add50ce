-- Sets of things.
use Rattle.cd_sets.specs.declared.node_id.NodeId.{NodeId}
use Rattle.cd_model.specs.Formula.{Graph, IsIn}
use Rattle.cd_model.specs.Thing.{Thing, IsElement}

abbrev pub Set : Type 1
Set = Thing → Type 0

infix 50 ◌⊆◌
-- each element of the one is in the other
abbrev pub ◌⊆◌ : Set → Set → Type 0
one ⊆ other = (e : Thing) → IsElement e → one e → other e

-- what is in a node of a graph
abbrev pub elements_of : Graph → NodeId → Set
elements_of graph id e = IsIn graph e id
