-- What a graph that is ready for a check says of its nodes.
use Rattle.std.proofs.Common.{◌<◌, length}
use Rattle.cd_sets.specs.declared.node_id.NodeId.{NodeId}
use Rattle.cd_model.specs.Formula.{Graph, IsGraph}
use Rattle.cd_typing.specs.Typ.{typ, IsType}
use Rattle.cd_empty.specs.Growth.{Grows}
use Rattle.cd_empty.specs.Seen.{Seen, graph_of}
use Rattle.cd_check.specs.declared.base.Base.{Base}
use Rattle.cd_check.specs.Inner.Environment.{Nodes}
use Rattle.cd_check.specs.Inner.Ready.{IsReady}
use Rattle.cd_check.proofs.ReadyLater.{ready_later, later_of}

pub type_in : (base : Base) (graph : Graph) (locals : Nodes) → IsReady base graph locals → (id : NodeId) → id.0 < length graph → IsType (typ graph id)
type_in base graph locals ready id below = record { more = ready.more; begins = ready.begins; sound = ready.sound; is_node = below }

pub ready_grown : (base : Base) (old new : Seen) (locals : Nodes) → IsReady base (graph_of old) locals → Grows old new → IsGraph (graph_of new)
    → IsReady base (graph_of new) locals
ready_grown base old new locals ready grows sound = ready_later base (graph_of old) (graph_of new) (later_of old new grows sound) locals ready
