-- The graphs of worlds that grow.
use Rattle.std.proofs.Common.{◌≡◌, ◌<◌, ◌++◌, ◌∙◌, ap, append_assoc, length}
use Rattle.cd_sets.specs.declared.node_id.NodeId.{NodeId}
use Rattle.cd_model.specs.BuiltIns.{built_ins}
use Rattle.cd_model.specs.Formula.{Graph, IsGraph}
use Rattle.cd_typing.specs.Later.{IsLater}
use Rattle.cd_typing.specs.Typ.{typ, IsType}
use Rattle.cd_empty.specs.Growth.{Grows}
use Rattle.cd_empty.specs.Seen.{Seen, graph_of}

-- the new graph begins with the built-in nodes too
pub begins_too : (old new : Seen) → Grows old new
    → (more : Graph) × (graph_of old ≡ built_ins ++ more)
    → (more : Graph) × (graph_of new ≡ built_ins ++ more)
begins_too old new grows begins = (
  begins.0 ++ grows.graph.0,
  grows.graph.1 ∙ ap (λ start. start ++ grows.graph.0) begins.1
      ∙ append_assoc built_ins begins.0 grows.graph.0,
)

module _ (old new : Seen) (grows : Grows old new) (sound : IsGraph (graph_of new)) where
  pub is_later : IsLater (graph_of old) (graph_of new)
  is_later = record { more = grows.graph.0; is = grows.graph.1; sound = sound }

  -- a node of the new graph
  pub is_type : (begins : (more : Graph) × (graph_of old ≡ built_ins ++ more)) → (id : NodeId)
      → id.0 < length (graph_of new) → IsType (typ (graph_of new) id)
  is_type begins id below = record {
    more = (begins_too old new grows begins).0;
    begins = (begins_too old new grows begins).1;
    sound = sound;
    is_node = below;
  }
