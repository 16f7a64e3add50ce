-- Interfaces by nodes and by written types that hold the same elements admit the same functions.
use Rattle.std.proofs.Common.{ℕ, ◌<◌, Bool, true, false, List, [], ◌∷◌, length, ◌↔◌, subst}
use Rattle.std.proofs.lemmas.List.{append-nil}
use Rattle.cd_sets.specs.declared.node_id.NodeId.{NodeId}
use Rattle.cd_model.specs.AllOf.{AllOf}
use Rattle.cd_model.specs.Formula.{Graph, IsGraph, nodes}
use Rattle.cd_model.specs.Interfaces.{ArrowOf, OfNodes, OfWritten, ArrowsAgree, admits, value_in_node}
use Rattle.cd_model.specs.Thing.{Thing, Function, Pairs, NoPair, Maps, Fails, IsElement}
use Rattle.cd_model.specs.Types.{Presentation, answers, no_closure, element_maps}
use Rattle.cd_model.specs.Written.{WrittenType, written}
use Rattle.cd_model.proofs.BothWays.{itself, both_agree, one_agrees}
use Rattle.cd_model.proofs.Extending.{kept_values}

-- a function element maps alike where all elements answer alike
module _ {X Y : Type 0} (at : Presentation X) (for : Presentation Y) (a b : X) (c d : Y)
    (first : (e : Thing) (answer : Bool) → IsElement e → answers at no_closure e a answer ↔ answers for no_closure e c answer)
    (second : (e : Thing) (answer : Bool) → IsElement e → answers at no_closure e b answer ↔ answers for no_closure e d answer) where
  pub maps_agree : (pairs : Pairs) → IsElement (Function pairs) → element_maps at pairs a b true ↔ element_maps for pairs c d true
  maps_agree NoPair sound = itself
  maps_agree (Maps from to rest) sound =
      both_agree (one_agrees (first from false sound.0) (second to true sound.1)) (maps_agree rest sound.2)
  maps_agree (Fails from rest) sound = both_agree (first from false sound.0) (maps_agree rest sound.1)

admit_alike : (graph : Graph) (count : ℕ) (pairs : Pairs) → IsElement (Function pairs)
    → (arrows : List (ArrowOf NodeId)) (others : List (ArrowOf WrittenType)) → ArrowsAgree graph count arrows others
    → AllOf (λ arrow. element_maps (nodes graph) pairs arrow.argument arrow.result true) arrows
    ↔ AllOf (λ arrow. element_maps (written count) pairs arrow.argument arrow.result true) others
admit_alike graph count pairs sound [] [] agree = itself
admit_alike graph count pairs sound [] (other ∷ others) agree = absurd agree
admit_alike graph count pairs sound (arrow ∷ arrows) [] agree = absurd agree
admit_alike graph count pairs sound (arrow ∷ arrows) (other ∷ others) agree = both_agree
    (maps_agree (nodes graph) (written count) arrow.argument arrow.result other.argument other.result agree.0 agree.1 pairs sound)
    (admit_alike graph count pairs sound arrows others agree.2)

pub interfaces_agree : (graph : Graph) (count : ℕ) (arrows : ℕ → List (ArrowOf NodeId)) (others : ℕ → List (ArrowOf WrittenType))
    → IsGraph graph → ((function : ℕ) → ArrowsAgree graph count (arrows function) (others function))
    → (is : Thing) (id : NodeId) (answer : Bool) → id.0 < length graph
    → value_in_node graph (OfNodes graph arrows) is id answer ↔ value_in_node graph (OfWritten count others) is id answer
interfaces_agree graph count arrows others sound agree is id answer below = subst
    (λ (longer : Graph). value_in_node graph (OfNodes graph arrows) is id answer ↔ value_in_node longer (OfWritten count others) is id answer)
    (append-nil graph)
    (kept_values graph [] sound (admits (OfNodes graph arrows)) (admits (OfWritten count others))
    (λ function pairs element. admit_alike graph count pairs element (arrows function) (others function) (agree function)) is id answer below)
