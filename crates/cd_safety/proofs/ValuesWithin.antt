-- A value is in a type or outside it, and in each type that holds all elements of one that it is in.
use Rattle.std.proofs.Common.{Bool, true, false, [], ◌∷◌, ◌⊎◌, ◌↔◌}
use Rattle.cd_sets.specs.declared.node_id.NodeId.{NodeId}
use Rattle.cd_model.specs.Formula.{Graph, in_node}
use Rattle.cd_model.specs.Interfaces.{Interfaces, value_in_node}
use Rattle.cd_model.specs.Thing.{Thing}
use Rattle.cd_model.proofs.BothWays.{turned, through}
use Rattle.cd_meaning.specs.Sets.{◌⊆◌}
use Rattle.cd_typing.specs.Typ.{Typ, In, IsType}
use Rattle.cd_safety.specs.HoldsAs.{HoldsAs}
use Rattle.cd_safety.specs.StandsIn.{Agrees}
use Rattle.cd_safety.specs.ValueIn.{ValueIn, IsTypedValue}
use Rattle.cd_safety.proofs.StandInsAgree.{agree}
use Rattle.cd_safety.proofs.StandIns.{stand_in, value_decided}
use Rattle.cd_safety.proofs.TypesPlaced.{shared_graph}

-- what agrees with a value at the nodes of a graph does at each type that has a node there
pub agrees_at : (graph : Graph) (interfaces : Interfaces) (v e : Thing) → Agrees graph interfaces v e → (id : NodeId) (t : Typ)
    → HoldsAs graph id t → (answer : Bool) → value_in_node t.graph interfaces v t.id answer ↔ in_node t.graph e t.id answer
agrees_at graph interfaces v e agrees id t holds answer =
    through (turned (holds.values interfaces v answer)) (through (agrees id answer) (holds.elements e answer))

module _ (interfaces : Interfaces) (v : Thing) (typed : IsTypedValue interfaces v) where
  pub in_or_outside : (t : Typ) → IsType t → ValueIn interfaces t v ⊎ value_in_node t.graph interfaces v t.id false
  in_or_outside t type =
      value_decided t.graph type.more type.begins type.sound interfaces v typed.is_value typed.have_arrows t.id

  pub value_within : (s t : Typ) → IsType s → IsType t → In s ⊆ In t → ValueIn interfaces s v → ValueIn interfaces t v
  value_within s t s_is t_is within inside =
      let all = shared_graph (s ∷ t ∷ []) (s_is, (t_is, tt)) in
      let found = stand_in all.graph all.more all.begins all.sound interfaces v typed.is_value typed.have_arrows in
      let agrees = agree all.graph interfaces v found.e found.stands in
      let at_s = agrees_at all.graph interfaces v found.e agrees all.nodes.0.0 s all.nodes.0.1 true in
      let at_t = agrees_at all.graph interfaces v found.e agrees all.nodes.1.0.0 t all.nodes.1.0.1 true in
      at_t.1 (within found.e found.is_element (at_s.0 inside))
