-- What is known of nodes that hold what is joined, and whether a node is within another one.
use Rattle.std.specs.Prelude.{Bool, true, false}
use Rattle.cd_sets.specs.declared.node_id.NodeId.{NodeId}
use Rattle.cd_model.specs.Formula.{Graph, IsIn}
use Rattle.cd_model.specs.Thing.{Thing, IsElement}
use Rattle.cd_meaning.specs.Sequences.{IsJoinOf}
use Rattle.cd_meaning.specs.Sets.{◌⊆◌, elements_of}

pub record IsJoin (old new : Graph) (first second id : NodeId) : Type 0 where
  pub has : IsJoinOf (elements_of old first) (elements_of old second) ⊆ elements_of new id
  pub only : elements_of new id ⊆ IsJoinOf (elements_of old first) (elements_of old second)

-- what is in the one node is in the other, or the one has an element
abbrev pub IsAnswer : Graph → (one other : NodeId) → Bool → Type 0
IsAnswer graph one other true = elements_of graph one ⊆ elements_of graph other
IsAnswer graph one other false = (e : Thing) × IsElement e × IsIn graph e one
