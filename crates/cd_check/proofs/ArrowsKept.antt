-- Branches that are kept to each arrow of an interface, where the function's own name has its type.
use Rattle.std.proofs.Common.{◌<◌, List, [], ◌∷◌, length, Option, Some, None, refl}
use Rattle.cd_sets.specs.declared.node_id.NodeId.{NodeId}
use Rattle.cd_syntax.specs.Name.{Name}
use Rattle.cd_model.specs.AllOf.{AllOf}
use Rattle.cd_model.specs.Formula.{Graph, IsGraph}
use Rattle.cd_model.specs.Scope.{Scope}
use Rattle.cd_program.specs.Expr.{Branches}
use Rattle.cd_meaning.specs.Sets.{elements_of}
use Rattle.cd_typing.specs.Branches.{Cover}
use Rattle.cd_typing.specs.Later.{IsLater}
use Rattle.cd_typing.specs.Typ.{Typ, In, Types, with_type}
use Rattle.cd_typing.specs.Typing.{BodiesHave}
use Rattle.cd_typing.proofs.Later.{later_in, earlier_in, below_later}
use Rattle.cd_typing.proofs.Widening.{bodies_have_more}
use Rattle.cd_check.specs.Inner.Environment.{Nodes, AreOfTypes, AreNodesOf, AreSame, with_node}
use Rattle.cd_check.specs.Inner.Promises.{Keep, KeepAll}
use Rattle.cd_check.proofs.BodiesTyped.{fewer_bodies}
use Rattle.cd_check.proofs.Promises.{keep_same}
use Rattle.cd_check.proofs.TypesLater.{types_later}

module _ (scope : Scope) where
  -- branches for one arrow, where names have the types of nodes
  abbrev pub KeptAt : Graph → Nodes → Branches → NodeId × NodeId → Type 0
  KeptAt graph nodes branches arrow = (types : Types) → AreOfTypes graph nodes types
      → Keep scope types branches (elements_of graph arrow.0) (elements_of graph arrow.1)

  pub kept_earlier : (graph later : Graph) → IsLater graph later → IsGraph graph → (nodes : Nodes) → AreNodesOf graph nodes
      → (branches : Branches) (arrow : NodeId × NodeId) → arrow.0.0 < length graph → arrow.1.0 < length graph
      → KeptAt later nodes branches arrow → KeptAt graph nodes branches arrow
  kept_earlier graph later is sound nodes are branches arrow argument result kept = λ types of.
      keep_same scope types branches (elements_of later arrow.0) (elements_of graph arrow.0) (elements_of later arrow.1)
      (elements_of graph arrow.1) (later_in graph later is sound arrow.0 argument) (earlier_in graph later is sound arrow.1 result)
      (kept types (types_later graph later is sound nodes are types of))

  -- what is matched is divided in a second graph, and the bodies are within the result in a third one
  pub arrow_kept : (first second third : Graph) → IsLater first second → IsLater second third → IsGraph first → (nodes : Nodes)
      → AreNodesOf first nodes → (branches : Branches) (arrow : NodeId × NodeId) → arrow.0.0 < length first → arrow.1.0 < length first
      → Cover scope branches (elements_of second arrow.0)
      → ((types : Types) → AreOfTypes second nodes types
      → BodiesHave scope types [] (elements_of second arrow.0) branches (elements_of third arrow.1))
      → KeptAt first nodes branches arrow
  arrow_kept first second third is_second is_third sound nodes are branches arrow argument result cover have = λ types of. record {
    cover = λ e element inside. cover e element (later_in first second is_second sound arrow.0 argument e element inside);
    bodies = fewer_bodies scope types branches (elements_of second arrow.0) (elements_of first arrow.0)
        (later_in first second is_second sound arrow.0 argument) (elements_of first arrow.1)
        (bodies_have_more scope types [] (elements_of second arrow.0) branches (elements_of third arrow.1) (elements_of first arrow.1)
        (λ e element inside. earlier_in first second is_second sound arrow.1 result e element
        (earlier_in second third is_third is_second.sound arrow.1 (below_later first second is_second arrow.1 result) e element inside))
        (have types (types_later first second is_second sound nodes are types of)));
  }

  pub named_types : (graph : Graph) (nodes : Nodes) (types : Types) (self : Typ) (whole : NodeId) → AreOfTypes graph nodes types
      → AreSame (elements_of graph whole) (In self) → (name : Option Name)
      → AreOfTypes graph (with_node name whole nodes) (with_type name self types)
  named_types graph nodes types self whole of same None = of
  named_types graph nodes types self whole of same (Some name) = (refl, same, of)

  pub all_kept : (graph : Graph) (nodes : Nodes) (name : Option Name) (whole : NodeId) (branches : Branches)
      → (arrows : List (NodeId × NodeId)) → AllOf (KeptAt graph (with_node name whole nodes) branches) arrows
      → KeepAll scope graph nodes name whole branches arrows
  all_kept graph nodes name whole branches arrows kept = λ types self of same.
      each types self (named_types graph nodes types self whole of same name) arrows kept
    where
      each : (types : Types) (self : Typ) → AreOfTypes graph (with_node name whole nodes) (with_type name self types)
          → (arrows : List (NodeId × NodeId)) → AllOf (KeptAt graph (with_node name whole nodes) branches) arrows
          → AllOf (λ arrow. Keep scope (with_type name self types) branches (elements_of graph arrow.0) (elements_of graph arrow.1)) arrows
      each types self of [] kept = tt
      each types self of (arrow ∷ arrows) kept = (kept.0 (with_type name self types) of, each types self of arrows kept.1)
