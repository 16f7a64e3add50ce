-- Types of different graphs have nodes in one graph.
use Rattle.std.proofs.Common.{List, [], ◌∷◌}
use Rattle.cd_model.specs.AllOf.{AllOf}
use Rattle.cd_model.specs.BuiltIns.{built_ins}
use Rattle.cd_model.specs.Formula.{Graph, IsGraph}
use Rattle.cd_model.proofs.Ones.{each_weaker}
use Rattle.cd_model.proofs.SoundBuiltIns.{built_ins_are_sound}
use Rattle.cd_typing.specs.Later.{IsLater}
use Rattle.cd_typing.specs.Typ.{Typ, IsType}
use Rattle.cd_typing.proofs.Later.{later_still}
use Rattle.cd_safety.specs.HoldsAs.{HoldsAs}
use Rattle.cd_safety.specs.SharedGraph.{HaveNodes, SharedGraph}
use Rattle.cd_safety.proofs.GraphsJoined.{still_holds}
use Rattle.cd_safety.proofs.ArrowsPlaced.{later_itself, node_placed}

-- in a later graph than this one
record Placed (graph : Graph) (types : List Typ) : Type 0 where
  later : Graph
  is_later : IsLater graph later
  nodes : HaveNodes later types

placed : (graph : Graph) → IsGraph graph → (types : List Typ) → AllOf IsType types → Placed graph types
placed graph sound [] are = record { later = graph; is_later = later_itself graph sound; nodes = tt }
placed graph sound (t ∷ types) are =
    let rest = placed graph sound types are.1 in
    let one = node_placed rest.later rest.is_later.sound t are.0 in
    record {
      later = one.later;
      is_later = later_still graph rest.later one.later rest.is_later one.is_later;
      nodes = (
        (one.id, one.holds),
        each_weaker (λ t. (id : _) × HoldsAs rest.later id t) (λ t. (id : _) × HoldsAs one.later id t)
            (λ t has. (has.0, still_holds rest.later one.later one.is_later rest.is_later.sound has.0 t has.1)) types rest.nodes,
      );
    }

pub shared_graph : (types : List Typ) → AllOf IsType types → SharedGraph types
shared_graph types are = let all = placed built_ins built_ins_are_sound types are in record {
  graph = all.later;
  more = all.is_later.more;
  begins = all.is_later.is;
  sound = all.is_later.sound;
  nodes = all.nodes;
}
