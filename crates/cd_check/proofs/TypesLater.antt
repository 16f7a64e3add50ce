-- Names have their types in each longer graph, and what is known whatever types they have in a graph is known in a longer one.
use Rattle.std.proofs.Common.{[], ◌∷◌, ◌<◌, length}
use Rattle.cd_sets.specs.declared.node_id.NodeId.{NodeId}
use Rattle.cd_model.specs.Formula.{Graph, IsGraph}
use Rattle.cd_model.specs.Scope.{Scope}
use Rattle.cd_program.specs.Expr.{Expr}
use Rattle.cd_meaning.specs.Sets.{◌⊆◌, elements_of}
use Rattle.cd_typing.specs.Later.{IsLater}
use Rattle.cd_typing.specs.Typ.{In, Types}
use Rattle.cd_typing.proofs.Later.{later_in, earlier_in}
use Rattle.cd_typing.proofs.Subsets.{through}
use Rattle.cd_check.specs.Inner.Environment.{Nodes, AreOfTypes, AreNodesOf}
use Rattle.cd_check.specs.Inner.Known.{IsKnown}

-- names have the same types in two graphs whose nodes of them hold the same elements
of_same_nodes : (graph one other : Graph)
    → ((id : NodeId) → id.0 < length graph → elements_of one id ⊆ elements_of other id)
    → ((id : NodeId) → id.0 < length graph → elements_of other id ⊆ elements_of one id)
    → (nodes : Nodes) → AreNodesOf graph nodes → (types : Types) → AreOfTypes one nodes types → AreOfTypes other nodes types
of_same_nodes graph one other there back [] are [] of = tt
of_same_nodes graph one other there back [] are (type ∷ types) of = of
of_same_nodes graph one other there back (node ∷ nodes) are [] of = of
of_same_nodes graph one other there back (node ∷ nodes) are (type ∷ types) of = (
  of.0,
  record {
    within = through (elements_of other node.1) (elements_of one node.1) (In type.1) (back node.1 are.0) of.1.within;
    whole = through (In type.1) (elements_of one node.1) (elements_of other node.1) of.1.whole (there node.1 are.0);
  },
  of_same_nodes graph one other there back nodes are.1 types of.2,
)

pub types_later : (graph later : Graph) → IsLater graph later → IsGraph graph → (nodes : Nodes) → AreNodesOf graph nodes
    → (types : Types) → AreOfTypes graph nodes types → AreOfTypes later nodes types
types_later graph later begins sound = of_same_nodes graph graph later (later_in graph later begins sound)
    (earlier_in graph later begins sound)

types_earlier : (graph later : Graph) → IsLater graph later → IsGraph graph → (nodes : Nodes) → AreNodesOf graph nodes
    → (types : Types) → AreOfTypes later nodes types → AreOfTypes graph nodes types
types_earlier graph later begins sound = of_same_nodes graph later graph (earlier_in graph later begins sound)
    (later_in graph later begins sound)

pub known_then : (old middle : Graph) → IsLater old middle → IsGraph old → (nodes : Nodes) → AreNodesOf old nodes → (scope : Scope) (new : Graph)
    (e : Expr) (id : NodeId) → IsKnown old nodes scope new e id → IsKnown middle nodes scope new e id
known_then old middle is sound nodes are scope new e id known types of = known types (types_earlier old middle is sound nodes are types of)
