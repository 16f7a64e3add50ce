-- Functions whose branches keep what they promise have the type of their interface.
use Rattle.std.proofs.Common.{◌<◌, List, [], ◌∷◌, length}
use Rattle.cd_sets.specs.declared.node_id.NodeId.{NodeId}
use Rattle.cd_model.specs.AllOf.{AllOf}
use Rattle.cd_model.specs.Formula.{Graph, IsGraph}
use Rattle.cd_model.specs.Scope.{Scope}
use Rattle.cd_program.specs.Expr.{Branches, FunctionTree, function}
use Rattle.cd_meaning.specs.Sets.{Set, ◌⊆◌, elements_of}
use Rattle.cd_typing.specs.Typ.{typ, In, Types, with_type}
use Rattle.cd_typing.specs.Branches.{Cover}
use Rattle.cd_typing.specs.Typing.{BodiesHave, FunctionHas}
use Rattle.cd_typing.proofs.Widening.{bodies_have_more}
use Rattle.cd_check.specs.Inner.Environment.{Nodes, AreOfTypes}
use Rattle.cd_typing.specs.Later.{IsLater}
use Rattle.cd_check.specs.Inner.Promises.{arrows_in, ArePairs, Keep, HasPromise, KeepsPromise}
use Rattle.cd_typing.proofs.Later.{later_in, earlier_in}
use Rattle.cd_check.proofs.BodiesTyped.{bodies_shift}

module _ (scope : Scope) where
  -- the same sets
  pub keep_same : (types : Types) (branches : Branches) (argument other result wider : Set) → other ⊆ argument → result ⊆ wider
      → Keep scope types branches argument result → Keep scope types branches other wider
  keep_same types branches argument other result wider fewer more keep = record {
    cover = λ e element inside. keep.cover e element (fewer e element inside);
    bodies = bodies_shift scope types branches [] [] other argument (λ e element inside fail. (fewer e element inside, tt)) wider
        (bodies_have_more scope types [] argument branches result wider more keep.bodies);
  }

  -- in an earlier graph
  pub keep_earlier : (graph later : Graph) → IsLater graph later → IsGraph graph → (types : Types) (branches : Branches)
      → (arrows : List (NodeId × NodeId)) → ArePairs graph arrows
      → AllOf (λ arrow. Keep scope types branches (elements_of later arrow.0) (elements_of later arrow.1)) arrows
      → AllOf (λ arrow. Keep scope types branches (elements_of graph arrow.0) (elements_of graph arrow.1)) arrows
  keep_earlier graph later is sound types branches [] are keep = tt
  keep_earlier graph later is sound types branches (arrow ∷ arrows) are keep = (
    keep_same types branches (elements_of later arrow.0) (elements_of graph arrow.0) (elements_of later arrow.1)
        (elements_of graph arrow.1) (later_in graph later is sound arrow.0 are.0.0)
        (earlier_in graph later is sound arrow.1 are.0.1) keep.0,
    keep_earlier graph later is sound types branches arrows are.1 keep.1,
  )

  arrows_keep : (graph : Graph) (types : Types) (branches : Branches) (arrows : List (NodeId × NodeId))
      → AllOf (λ arrow. Keep scope types branches (elements_of graph arrow.0) (elements_of graph arrow.1)) arrows
      → AllOf (λ arrow. Cover scope branches (In arrow.argument)
      × BodiesHave scope types [] (In arrow.argument) branches (In arrow.result)) (arrows_in graph arrows)
  arrows_keep graph types branches [] keep = tt
  arrows_keep graph types branches (arrow ∷ arrows) keep =
      ((keep.0.cover, keep.0.bodies), arrows_keep graph types branches arrows keep.1)

  -- The interface is read in a first graph, the branches are checked from a second one on, and the type is asked for in a last one
  pub function_has : (first graph last : Graph) → IsLater first graph → IsLater first last → IsGraph first → (nodes : Nodes) (f : FunctionTree)
      → (arrows : List (NodeId × NodeId)) (whole : NodeId) → ArePairs first arrows → whole.0 < length first
      → HasPromise scope first f arrows whole → KeepsPromise scope graph nodes f arrows whole
      → (types : Types) → AreOfTypes graph nodes types → FunctionHas scope types f (typ last whole)
  function_has first graph last is further sound nodes (function at name name_at interface branches) arrows whole are below promise keeps types of = (
    arrows_in first arrows,
    typ first whole,
    promise.written,
    promise.is_whole,
    arrows_keep first (with_type name (typ first whole) types) branches arrows
        (keep_earlier first graph is sound (with_type name (typ first whole) types) branches arrows are
        (keeps types (typ first whole) of (record {
          within = earlier_in first graph is sound whole below;
          whole = later_in first graph is sound whole below;
        }))),
    later_in first last further sound whole below,
  )
