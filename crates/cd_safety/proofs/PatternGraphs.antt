-- One graph has nodes for those of several.
use Rattle.std.proofs.Common.{List, [], ◌∷◌}
use Rattle.cd_model.specs.AllOf.{AllOf}
use Rattle.cd_model.specs.BuiltIns.{built_ins}
use Rattle.cd_model.specs.Formula.{Graph, IsGraph}
use Rattle.cd_model.proofs.Ones.{each_weaker}
use Rattle.cd_model.proofs.SoundBuiltIns.{built_ins_are_sound}
use Rattle.cd_typing.specs.Later.{IsLater}
use Rattle.cd_typing.specs.Typ.{typ}
use Rattle.cd_typing.proofs.Later.{later_still}
use Rattle.cd_safety.specs.PatternTypes.{HasNodesOf, HasNodesOfAll}
use Rattle.cd_safety.proofs.ArrowsPlaced.{later_itself}
use Rattle.cd_safety.proofs.GraphsJoined.{graphs_joined, still_holds}

record AllPlaced (graphs : List Graph) : Type 0 where
  later : Graph
  is_later : IsLater built_ins later
  nodes : AllOf (HasNodesOf later) graphs

all_placed : (graphs : List Graph) → AllOf IsGraph graphs → AllPlaced graphs
all_placed [] sound = record { later = built_ins; is_later = later_itself built_ins built_ins_are_sound; nodes = tt }
all_placed (graph ∷ graphs) sound =
    let rest = all_placed graphs sound.1 in
    let all = graphs_joined rest.later graph rest.is_later.sound sound.0 in
    record {
      later = all.joined;
      is_later = later_still built_ins rest.later all.joined rest.is_later all.is_later;
      nodes = (
        λ id below. all.node_for id below,
        each_weaker (HasNodesOf rest.later) (HasNodesOf all.joined)
            (λ other nodes id below. let found = nodes id below in
            (found.0, still_holds rest.later all.joined all.is_later rest.is_later.sound found.0 (typ other id) found.1)) graphs rest.nodes,
      );
    }

pub nodes_of_all : (graphs : List Graph) → AllOf IsGraph graphs → HasNodesOfAll graphs
nodes_of_all graphs sound = let all = all_placed graphs sound in record {
  graph = all.later;
  more = all.is_later.more;
  begins = all.is_later.is;
  sound = all.is_later.sound;
  nodes = all.nodes;
}
