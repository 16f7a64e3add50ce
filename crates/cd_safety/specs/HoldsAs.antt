-- Nodes of one graph that hold what types of others hold.
use Rattle.std.specs.Prelude.{Bool, ◌<◌, ◌↔◌, length}
use Rattle.cd_sets.specs.declared.node_id.NodeId.{NodeId}
use Rattle.cd_model.specs.Formula.{Graph, in_node}
use Rattle.cd_model.specs.Interfaces.{Interfaces, value_in_node}
use Rattle.cd_model.specs.Thing.{Thing}
use Rattle.cd_typing.specs.Later.{IsLater}
use Rattle.cd_typing.specs.Typ.{Typ, typ}

-- the node holds the same elements as the type, and the same values
pub record HoldsAs (graph : Graph) (id : NodeId) (t : Typ) : Type 0 where
  pub is_node : id.0 < length graph
  pub elements : (e : Thing) (answer : Bool) → in_node graph e id answer
      ↔ in_node t.graph e t.id answer
  pub values : (interfaces : Interfaces) (v : Thing) (answer : Bool)
      → value_in_node graph interfaces v id answer ↔ value_in_node t.graph interfaces v t.id answer

-- a graph that begins with the first one and has a node for each node of the second
pub record HasJoined (first second : Graph) : Type 0 where
  pub joined : Graph
  pub is_later : IsLater first joined
  pub node_for : (id : NodeId) → id.0 < length second
      → (other : NodeId) × HoldsAs joined other (typ second id)
