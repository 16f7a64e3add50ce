-- A node of a graph stands for a written type where both hold the same elements and the same
-- values.
use Rattle.std.specs.Prelude.{◌≡◌, Bool, ◌<◌, ◌↔◌, ◌++◌, length}
use Rattle.cd_sets.specs.declared.node_id.NodeId.{NodeId}
use Rattle.cd_model.specs.BuiltIns.{built_ins}
use Rattle.cd_model.specs.Formula.{Graph, in_node}
use Rattle.cd_model.specs.Thing.{Thing, IsElement, IsValue}
use Rattle.cd_model.specs.Interfaces.{Interfaces, value_in_node, value_in_written}
use Rattle.cd_model.specs.Written.{Written, in_written}

pub record StandsFor (graph : Graph) (id : NodeId) (type : Written) : Type 0 where
  pub is_node : id.0 < length graph
  pub begins : (more : Graph) × (graph ≡ built_ins ++ more)
  pub elements : (is : Thing) (answer : Bool) → IsElement is → in_node graph is id answer
      ↔ in_written is type answer
  pub values : (interfaces : Interfaces) (is : Thing) (answer : Bool) → IsValue is
      → value_in_node graph interfaces is id answer ↔ value_in_written interfaces is type answer
