-- Each closure is in a node or outside it, in each sound graph, where the arrows of its interface are types.
use Rattle.std.proofs.Common.{◌≡◌, ◌<◌, ℕ, Bool, true, false, List, ◌++◌, ◌⊎◌, inl, inr, ◌↔◌, length, refl, sym, subst, nat_lt}
use Rattle.std.proofs.lemmas.Bool.{cases_Bool, ltb-true, ltb-false}
use Rattle.cd_sets.specs.declared.node_id.NodeId.{NodeId}
use Rattle.cd_model.specs.Alike as heads
use Rattle.cd_model.specs.Alike.{Standing, ReadAlike, MapAlike}
use Rattle.cd_model.specs.BuiltIns.{built_ins}
use Rattle.cd_model.specs.Formula.{Graph, IsGraph, nodes, at_formula, holds}
use Rattle.cd_model.specs.Interfaces.{Interfaces, OfNodes, admits, value_in_node, value_reader}
use Rattle.cd_model.specs.Thing.{Closure, Fields, Function, Pairs, IsElement}
use Rattle.cd_model.specs.Types.{Mapping, Admits, AllMap, function_at, element_maps, value_answers, closure_maps}
use Rattle.cd_model.proofs.BothWays.{itself, none_agrees}
use Rattle.cd_model.proofs.Extending.{IsOld, nodes_alike}
use Rattle.cd_model.proofs.ValuesAlike.{maps_alike}
use Rattle.cd_rules.proofs.NumbersBeyond.{beyond}
use Rattle.cd_rules.proofs.ValuesDecided.{in_or_outside}
use Rattle.cd_typing.specs.Interfaces.{Arrow}
use Rattle.cd_typing.specs.Later.{IsLater}
use Rattle.cd_typing.specs.Typ.{typ, IsType}
use Rattle.cd_typing.proofs.Later.{type_later}
use Rattle.cd_safety.specs.OfInterface.{AreArrowsOf}
use Rattle.cd_safety.proofs.ArrowsPlaced.{arrows_placed, types_of, admitted}

function_alike : {X Y : Type 0} (Stands : Standing X Y) (one : Mapping X) (other : Mapping Y) → MapAlike Stands one other
    → ReadAlike Stands (function_at one) (function_at other)
function_alike Stands one other alike _ _ (heads.arrows a b c d is_a is_b) answer = alike a b c d is_a is_b answer
function_alike Stands one other alike _ _ _ answer = itself

-- a closure answers alike in a longer graph under interfaces that admit the same for its function
module _ (graph more : Graph) (sound : IsGraph graph) (one other : Admits) (function : ℕ)
    (same : (pairs : Pairs) → IsElement (Function pairs) → one function pairs ↔ other function pairs) where
  abbrev longer : Graph
  longer = graph ++ more

  abbrev Old : Standing NodeId NodeId
  Old = IsOld (length graph)

  all_map_alike : (a b c d : NodeId) → Old a c → Old b d
      → AllMap (nodes graph) one function a b ↔ AllMap (nodes longer) other function c d
  all_map_alike a b c d is_a is_b = (
    λ all pairs element inside. (maps pairs element).0 (all pairs element ((same pairs element).1 inside)),
    λ all pairs element inside. (maps pairs element).1 (all pairs element ((same pairs element).0 inside)),
  )
    where
      maps : (pairs : Pairs) → IsElement (Function pairs)
          → element_maps (nodes graph) pairs a b true ↔ element_maps (nodes longer) pairs c d true
      maps pairs element = maps_alike Old (nodes graph) (nodes longer) (nodes_alike graph more sound) pairs element a b c d is_a is_b true

  closure_maps_alike : MapAlike Old (closure_maps (nodes graph) one function) (closure_maps (nodes longer) other function)
  closure_maps_alike a b c d is_a is_b true = all_map_alike a b c d is_a is_b
  closure_maps_alike a b c d is_a is_b false = none_agrees (all_map_alike a b c d is_a is_b)

  closure_alike : (environment : Fields) (id : NodeId) (answer : Bool) → id.0 < length graph
      → value_answers (nodes graph) one (Closure function environment) id answer
      ↔ value_answers (nodes longer) other (Closure function environment) id answer
  closure_alike environment id answer below = nodes_alike graph more sound
      (closure_maps (nodes graph) one) (closure_maps (nodes longer) other) (Closure function environment) tt
      (function_alike Old (closure_maps (nodes graph) one function) (closure_maps (nodes longer) other function) closure_maps_alike)
      id id (record { below = below; same = refl }) answer

-- the same in a later graph
pub closure_later : (graph later : Graph) → IsLater graph later → IsGraph graph → (one other : Admits) (function : ℕ)
    → ((pairs : Pairs) → IsElement (Function pairs) → one function pairs ↔ other function pairs)
    → (environment : Fields) (id : NodeId) (answer : Bool) → id.0 < length graph
    → value_answers (nodes graph) one (Closure function environment) id answer
    ↔ value_answers (nodes later) other (Closure function environment) id answer
closure_later graph later is sound one other function same environment id answer below = subst
    (λ whole. value_answers (nodes graph) one (Closure function environment) id answer
    ↔ value_answers (nodes whole) other (Closure function environment) id answer) (sym is.is)
    (closure_alike graph is.more sound one other function same environment id answer below)

module _ (graph more : Graph) (begins : graph ≡ built_ins ++ more) (sound : IsGraph graph) (interfaces : Interfaces)
    (function : ℕ) (arrows : List Arrow) (are : AreArrowsOf interfaces function arrows) where
  decided_below : (environment : Fields) (id : NodeId) → id.0 < length graph
      → value_in_node graph interfaces (Closure function environment) id true
      ⊎ value_in_node graph interfaces (Closure function environment) id false
  decided_below environment id below =
      let all = arrows_placed graph sound arrows (types_of interfaces function arrows are) in
      let there : IsType (typ all.later id) = type_later graph all.later all.is_later id
      (record { more = more; begins = begins; sound = sound; is_node = below }) in
      let alike : (answer : Bool) → _ = λ answer. closure_later graph all.later all.is_later sound (admits interfaces)
      (admits (OfNodes all.later (λ n. all.ids))) function
      (λ pairs element. admitted all.later pairs element interfaces function arrows all.ids are all.hold) environment id answer below in
      elim (in_or_outside all.later there.more there.begins there.sound (λ n. all.ids) (Closure function environment) id) [
        | inl inside ↦ inl ((alike true).1 inside)
        | inr outside ↦ inr ((alike false).1 outside)
      ]

  pub closure_decided : (environment : Fields) (id : NodeId) → value_in_node graph interfaces (Closure function environment) id true
      ⊎ value_in_node graph interfaces (Closure function environment) id false
  closure_decided environment id = elim (cases_Bool (nat_lt id.0 (length graph))) [
    | inl below ↦ decided_below environment id (ltb-true id.0 (length graph) below)
    | inr not ↦ inr (subst
        (λ formula. holds (at_formula (value_reader graph interfaces (Closure function environment))) formula false)
        (sym (beyond graph id.0 (ltb-false id.0 (length graph) not))) refl)
  ]
