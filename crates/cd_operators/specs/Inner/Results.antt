-- Nodes that hold results for integers of two nodes, and the integers of a node.
use Rattle.std.specs.Prelude.{◌≡◌, ◌↔◌, ℤ, true, List}
use Rattle.cd_sets.specs.declared.interval.Interval.{Interval}
use Rattle.cd_sets.specs.declared.node_id.NodeId.{NodeId}
use Rattle.cd_sets.specs.Interval.{holds}
use Rattle.cd_syntax.specs.Integer.{IsInteger}
use Rattle.cd_model.specs.Formula.{Graph, IsIn}
use Rattle.cd_model.specs.Thing.{Integer}
use Rattle.cd_meaning.specs.Integers.{IsResultOf}
use Rattle.cd_meaning.specs.Sets.{◌⊆◌, elements_of}
use Rattle.cd_operators.specs.declared.operation.Operation.{Operation}
use Rattle.cd_operators.specs.Inner.Bounds.{compute}

abbrev pub AreIntegersOf : Graph → NodeId → List Interval → Type 0
AreIntegersOf graph id set = (z : ℤ) → IsInteger z
    → (holds set z ≡ true) ↔ IsIn graph (Integer z) id

pub record AreResults (operation : Operation) (old new : Graph) (first second id : NodeId)
    : Type 0 where
  pub has : IsResultOf (compute operation) (elements_of old first) (elements_of old second)
      ⊆ elements_of new id
  pub only : elements_of new id
      ⊆ IsResultOf (compute operation) (elements_of old first) (elements_of old second)
