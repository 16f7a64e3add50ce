-- The arrows of an interface, whose types are of different graphs, are nodes of one graph.
use Rattle.std.proofs.Common.{ℕ, true, List, [], ◌∷◌, ◌↔◌, sym, append-nil}
use Rattle.cd_sets.specs.declared.node_id.NodeId.{NodeId}
use Rattle.cd_model.specs.AllOf.{AllOf}
use Rattle.cd_model.specs.Formula.{Graph, IsGraph, nodes}
use Rattle.cd_model.specs.Interfaces.{ArrowOf, Interfaces, OfNodes, OfWritten, admits}
use Rattle.cd_model.specs.Thing.{Function, Pairs, IsElement}
use Rattle.cd_model.specs.Types.{Presentation, element_maps}
use Rattle.cd_model.specs.Written.{written}
use Rattle.cd_model.proofs.Admitting.{maps_agree}
use Rattle.cd_model.proofs.BothWays.{itself, turned, through, both_agree}
use Rattle.cd_typing.specs.Interfaces.{Arrow}
use Rattle.cd_typing.specs.Later.{IsLater}
use Rattle.cd_typing.specs.Typ.{Typ, IsType}
use Rattle.cd_typing.proofs.Later.{later_still}
use Rattle.cd_safety.specs.HoldsAs.{HoldsAs}
use Rattle.cd_safety.specs.OfInterface.{AreArrowsAt, AreArrowsOf}
use Rattle.cd_safety.proofs.GraphsJoined.{graphs_joined, still_holds}

-- a graph begins with itself
pub later_itself : (graph : Graph) → IsGraph graph → IsLater graph graph
later_itself graph sound = record { more = []; is = sym (append-nil graph); sound = sound }

-- a type of another graph has a node in a later one
pub record HasNode (graph : Graph) (t : Typ) : Type 0 where
  pub later : Graph
  pub is_later : IsLater graph later
  pub id : NodeId
  pub holds : HoldsAs later id t

pub node_placed : (graph : Graph) → IsGraph graph → (t : Typ) → IsType t → HasNode graph t
node_placed graph sound t type =
    let all = graphs_joined graph t.graph sound type.sound in
    let found = all.node_for t.id type.is_node in
    record { later = all.joined; is_later = all.is_later; id = found.0; holds = found.1 }

-- nodes for the argument and the result of an arrow, and for those of some arrows
pub record ArrowHolds (graph : Graph) (ids : ArrowOf NodeId) (arrow : Arrow) : Type 0 where
  pub argument : HoldsAs graph ids.argument arrow.argument
  pub result : HoldsAs graph ids.result arrow.result

abbrev pub ArrowsHold : Graph → List (ArrowOf NodeId) → List Arrow → Type 0
ArrowsHold graph [] [] = Unit {0}
ArrowsHold graph [] (arrow ∷ arrows) = ⊥
ArrowsHold graph (ids ∷ rest) [] = ⊥
ArrowsHold graph (ids ∷ rest) (arrow ∷ arrows) = ArrowHolds graph ids arrow × ArrowsHold graph rest arrows

pub arrows_still_hold : (graph later : Graph) → IsLater graph later → IsGraph graph → (ids : List (ArrowOf NodeId)) (arrows : List Arrow)
    → ArrowsHold graph ids arrows → ArrowsHold later ids arrows
arrows_still_hold graph later is sound [] [] hold = tt
arrows_still_hold graph later is sound [] (arrow ∷ arrows) hold = absurd hold
arrows_still_hold graph later is sound (ids ∷ rest) [] hold = absurd hold
arrows_still_hold graph later is sound (ids ∷ rest) (arrow ∷ arrows) hold = (
  record {
    argument = still_holds graph later is sound ids.argument arrow.argument hold.0.argument;
    result = still_holds graph later is sound ids.result arrow.result hold.0.result;
  },
  arrows_still_hold graph later is sound rest arrows hold.1,
)

pub record HasArrowNodes (graph : Graph) (arrows : List Arrow) : Type 0 where
  pub later : Graph
  pub is_later : IsLater graph later
  pub ids : List (ArrowOf NodeId)
  pub hold : ArrowsHold later ids arrows

abbrev pub AreOfTypes : List Arrow → Type 0
AreOfTypes arrows = AllOf (λ arrow. IsType arrow.argument × IsType arrow.result) arrows

pub arrows_placed : (graph : Graph) → IsGraph graph → (arrows : List Arrow) → AreOfTypes arrows → HasArrowNodes graph arrows
arrows_placed graph sound [] types = record { later = graph; is_later = later_itself graph sound; ids = []; hold = tt }
arrows_placed graph sound (arrow ∷ arrows) types =
    let rest = arrows_placed graph sound arrows types.1 in
    let argument = node_placed rest.later rest.is_later.sound arrow.argument types.0.0 in
    let result = node_placed argument.later argument.is_later.sound arrow.result types.0.1 in
    let is_later : IsLater rest.later result.later =
    later_still rest.later argument.later result.later argument.is_later result.is_later in
    record {
      later = result.later;
      is_later = later_still graph rest.later result.later rest.is_later is_later;
      ids = record { argument = argument.id; result = result.id } ∷ rest.ids;
      hold = (
        record {
          argument = still_holds argument.later result.later result.is_later argument.is_later.sound
              argument.id arrow.argument argument.holds;
          result = result.holds;
        },
        arrows_still_hold rest.later result.later is_later rest.is_later.sound rest.ids arrows rest.hold,
      );
    }

types_at : {X : Type 0} (at : Presentation X) (ones : List (ArrowOf X)) (arrows : List Arrow) → AreArrowsAt at ones arrows
    → AreOfTypes arrows
types_at at [] [] are = tt
types_at at [] (arrow ∷ arrows) are = absurd are
types_at at (one ∷ ones) [] are = absurd are
types_at at (one ∷ ones) (arrow ∷ arrows) are = ((are.0.argument_is, are.0.result_is), types_at at ones arrows are.1)

pub types_of : (interfaces : Interfaces) (function : ℕ) (arrows : List Arrow) → AreArrowsOf interfaces function arrows → AreOfTypes arrows
types_of (OfNodes graph arrows_of) function arrows are = types_at (nodes graph) (arrows_of function) arrows are
types_of (OfWritten count arrows_of) function arrows are = types_at (written count) (arrows_of function) arrows are

-- a function element is in the arrows of an interface where it is in those of these nodes
module _ (graph : Graph) (pairs : Pairs) (element : IsElement (Function pairs)) where
  abbrev IsInAll : List (ArrowOf NodeId) → Type 0
  IsInAll ids = AllOf (λ arrow. element_maps (nodes graph) pairs arrow.argument arrow.result true) ids

  admitted_at : {X : Type 0} (at : Presentation X) (ones : List (ArrowOf X)) (arrows : List Arrow) (ids : List (ArrowOf NodeId))
      → AreArrowsAt at ones arrows → ArrowsHold graph ids arrows
      → AllOf (λ arrow. element_maps at pairs arrow.argument arrow.result true) ones ↔ IsInAll ids
  admitted_at at [] [] [] are hold = itself
  admitted_at at [] [] (ids ∷ rest) are hold = absurd hold
  admitted_at at [] (arrow ∷ arrows) ids are hold = absurd are
  admitted_at at (one ∷ ones) [] ids are hold = absurd are
  admitted_at at (one ∷ ones) (arrow ∷ arrows) [] are hold = absurd hold
  admitted_at at (one ∷ ones) (arrow ∷ arrows) (ids ∷ rest) are hold = both_agree
      (maps_agree at (nodes graph) one.argument one.result ids.argument ids.result
      (λ e answer sound. through (are.0.argument e answer sound) (turned (hold.0.argument.elements e answer)))
      (λ e answer sound. through (are.0.result e answer sound) (turned (hold.0.result.elements e answer))) pairs element)
      (admitted_at at ones arrows rest are.1 hold.1)

  pub admitted : (interfaces : Interfaces) (function : ℕ) (arrows : List Arrow) (ids : List (ArrowOf NodeId))
      → AreArrowsOf interfaces function arrows → ArrowsHold graph ids arrows → admits interfaces function pairs ↔ IsInAll ids
  admitted (OfNodes other arrows_of) function arrows ids are hold = admitted_at (nodes other) (arrows_of function) arrows ids are hold
  admitted (OfWritten count arrows_of) function arrows ids are hold = admitted_at (written count) (arrows_of function) arrows ids are hold
