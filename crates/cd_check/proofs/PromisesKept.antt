-- What is promised in a graph is promised in each longer one.
use Rattle.std.proofs.Common.{◌<◌, List, [], ◌∷◌, sym, subst, length}
use Rattle.cd_sets.specs.declared.node_id.NodeId.{NodeId}
use Rattle.cd_syntax.specs.TypeTree.{Tree}
use Rattle.cd_model.specs.AllOf.{AllOf}
use Rattle.cd_model.specs.Formula.{Graph, IsGraph}
use Rattle.cd_model.specs.Scope.{Scope}
use Rattle.cd_model.specs.StandsFor.{StandsFor}
use Rattle.cd_model.specs.Thing.{IsElement, Pairs, ArePairs as AreElementPairs}
use Rattle.cd_model.proofs.StandsKept.{stands_kept}
use Rattle.cd_matching.specs.WrittenPattern.{in_scope}
use Rattle.cd_program.specs.Expr.{Signature, FunctionTree, function}
use Rattle.cd_meaning.specs.Sets.{◌⊆◌, elements_of}
use Rattle.cd_meaning.specs.Functions.{MapsInto}
use Rattle.cd_meaning.proofs.FunctionsMapping.{maps_same}
use Rattle.cd_typing.specs.Typ.{In}
use Rattle.cd_typing.specs.Interfaces.{AreWritten, AllArrows}
use Rattle.cd_typing.proofs.Subsets.{through}
use Rattle.cd_typing.specs.Later.{IsLater}
use Rattle.cd_check.specs.Inner.Promises.{arrows_in, ArePairs, IsPromise, HasPromise}
use Rattle.cd_typing.proofs.Later.{later_in, earlier_in, type_later}

module _ (graph later : Graph) (is : IsLater graph later) (sound : IsGraph graph) where
  pub in_later_arrows : (arrows : List (NodeId × NodeId)) → ArePairs graph arrows → AllArrows (arrows_in graph arrows) ⊆ AllArrows (arrows_in later arrows)
  in_later_arrows arrows below e element inside =
      (inside.0, inside.1, each arrows below inside.0 (subst IsElement inside.1 element) inside.2)
    where
      each : (arrows : List (NodeId × NodeId)) → ArePairs graph arrows → (pairs : Pairs) → AreElementPairs pairs
          → AllOf (λ arrow. MapsInto pairs (In arrow.argument) (In arrow.result)) (arrows_in graph arrows)
          → AllOf (λ arrow. MapsInto pairs (In arrow.argument) (In arrow.result)) (arrows_in later arrows)
      each [] below pairs are all = tt
      each (arrow ∷ arrows) below pairs are all = (
        maps_same pairs are (elements_of graph arrow.0) (elements_of later arrow.0) (elements_of graph arrow.1) (elements_of later arrow.1)
            (earlier_in graph later is sound arrow.0 below.0.0) (later_in graph later is sound arrow.1 below.0.1) all.0,
        each arrows below.1 pairs are all.1,
      )

  pub in_earlier_arrows : (arrows : List (NodeId × NodeId)) → ArePairs graph arrows → AllArrows (arrows_in later arrows) ⊆ AllArrows (arrows_in graph arrows)
  in_earlier_arrows arrows below e element inside =
      (inside.0, inside.1, each arrows below inside.0 (subst IsElement inside.1 element) inside.2)
    where
      each : (arrows : List (NodeId × NodeId)) → ArePairs graph arrows → (pairs : Pairs) → AreElementPairs pairs
          → AllOf (λ arrow. MapsInto pairs (In arrow.argument) (In arrow.result)) (arrows_in later arrows)
          → AllOf (λ arrow. MapsInto pairs (In arrow.argument) (In arrow.result)) (arrows_in graph arrows)
      each [] below pairs are all = tt
      each (arrow ∷ arrows) below pairs are all = (
        maps_same pairs are (elements_of later arrow.0) (elements_of graph arrow.0) (elements_of later arrow.1) (elements_of graph arrow.1)
            (later_in graph later is sound arrow.0 below.0.0) (earlier_in graph later is sound arrow.1 below.0.1) all.0,
        each arrows below.1 pairs are all.1,
      )

  stands_later : (id : NodeId) (scope : Scope) (written : Tree) → StandsFor graph id (in_scope scope written) → StandsFor later id (in_scope scope written)
  stands_later id scope written stands = subst (λ whole. StandsFor whole id (in_scope scope written)) (sym is.is)
      (stands_kept graph is.more id (in_scope scope written) sound stands)

  module _ (scope : Scope) where
    pub written_later : (signatures : List Signature) (arrows : List (NodeId × NodeId)) → AreWritten scope signatures (arrows_in graph arrows)
        → AreWritten scope signatures (arrows_in later arrows)
    written_later [] [] written = written
    written_later [] (arrow ∷ arrows) written = written
    written_later (signature ∷ signatures) [] written = written
    written_later (signature ∷ signatures) (arrow ∷ arrows) written = (
      (type_later graph later is arrow.0 written.0.0, stands_later arrow.0 scope signature.takes written.0.1),
      (type_later graph later is arrow.1 written.1.0, stands_later arrow.1 scope signature.gives written.1.1),
      written_later signatures arrows written.2,
    )

    -- the nodes of the arrows are of the graph
    pub pairs_below : (signatures : List Signature) (arrows : List (NodeId × NodeId)) → AreWritten scope signatures (arrows_in graph arrows)
        → ArePairs graph arrows
    pairs_below [] [] written = tt
    pairs_below [] (arrow ∷ arrows) written = absurd written
    pairs_below (signature ∷ signatures) [] written = tt
    pairs_below (signature ∷ signatures) (arrow ∷ arrows) written =
        ((written.0.0.is_node, written.1.0.is_node), pairs_below signatures arrows written.2)

    pub promise_later : (interface : List Signature) (arrows : List (NodeId × NodeId)) (whole : NodeId)
        → IsPromise scope graph interface arrows whole → IsPromise scope later interface arrows whole
    promise_later interface arrows whole promise = record {
      written = written_later interface arrows promise.written;
      is_whole = record {
        is_type = type_later graph later is whole promise.is_whole.is_type;
        within = through (elements_of later whole) (elements_of graph whole) (AllArrows (arrows_in later arrows))
            (earlier_in graph later is sound whole below)
            (through (elements_of graph whole) (AllArrows (arrows_in graph arrows)) (AllArrows (arrows_in later arrows))
            promise.is_whole.within (in_later_arrows arrows pairs));
        whole = through (AllArrows (arrows_in later arrows)) (AllArrows (arrows_in graph arrows)) (elements_of later whole)
            (in_earlier_arrows arrows pairs)
            (through (AllArrows (arrows_in graph arrows)) (elements_of graph whole) (elements_of later whole)
            promise.is_whole.whole (later_in graph later is sound whole below));
      };
    }
      where
        below : whole.0 < length graph
        below = promise.is_whole.is_type.is_node

        pairs : ArePairs graph arrows
        pairs = pairs_below interface arrows promise.written

    pub has_promise_later : (f : FunctionTree) (arrows : List (NodeId × NodeId)) (whole : NodeId) → HasPromise scope graph f arrows whole
        → HasPromise scope later f arrows whole
    has_promise_later (function at name name_at interface branches) arrows whole promise = promise_later interface arrows whole promise
