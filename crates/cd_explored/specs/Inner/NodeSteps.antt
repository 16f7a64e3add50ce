-- The steps of a node of a kernel at a question, of elements and of values in each longer graph.
use Rattle.std.specs.Prelude.{ℕ, ◌<◌, ◌++◌, Bool, true, false, List, length, Some}
use Rattle.cd_sets.specs.declared.node_id.NodeId.{NodeId}
use Rattle.cd_sets.specs.declared.question.Question.{Question}
use Rattle.cd_model.specs.AllOf.{AllOf}
use Rattle.cd_model.specs.Formula.{Graph, IsGraph, in_node}
use Rattle.cd_model.specs.Interfaces.{Interfaces, value_in_node}
use Rattle.cd_model.specs.Thing.{IsElement, IsValue}
use Rattle.cd_matching.specs.Kernel.{KernelNode, Pair, Gather, Xml}
use Rattle.cd_rules.specs.Family.{AsksNodes}
use Rattle.cd_products.specs.Products.{AreInterfacesOf}
use Rattle.cd_filter.specs.Accepting.{place_of}
use Rattle.cd_filter.specs.Capturing.{AreSteps, IsNarrowed}
use Rattle.cd_filter.specs.Table.{Place, Step}
use Rattle.cd_explored.specs.NextPlaces.{NextHas}

-- a place at one of so many nodes of the kernel, whose question asks nodes among so many
pub record IsInRange (graph kernel : ℕ) (place : Place) : Type 0 where
  pub number : place.number < kernel
  pub asks : AsksNodes graph place.question

-- a node whose steps are those of products: of pairs, of items that are gathered, of XML elements
abbrev pub HasProducts : KernelNode NodeId → Type 0
HasProducts (Pair p q) = Unit {0}
HasProducts (Gather variable p q) = Unit {0}
HasProducts (Xml tag attributes content) = Unit {0}
HasProducts _ = ⊥

-- by a kernel's nodes, the first of which is accepted by the node with this number
pub record AreNodeSteps (graph : Graph) (nodes : List (KernelNode NodeId)) (first : ℕ)
    (question : Question) (node : KernelNode NodeId) (steps : List Step) : Type 0 where
  pub elements : AreSteps (in_node graph) IsElement true (place_of nodes first) question (Some node)
      steps
  pub values : (more : Graph) (interfaces : Interfaces) → IsGraph (graph ++ more)
      → AreInterfacesOf (graph ++ more) interfaces
      → AreSteps (value_in_node (graph ++ more) interfaces) IsValue false (place_of nodes first)
      question (Some node) steps
  pub in_range : AllOf (NextHas (IsInRange (length graph) (length nodes))) steps

-- this question holds what of another one is in a node, or outside it
pub record AreNarrowed (graph : Graph) (answer : Bool) (id : NodeId) (question narrowed : Question)
    : Type 0 where
  pub elements : IsNarrowed (in_node graph) IsElement answer id question narrowed
  pub values : (more : Graph) (interfaces : Interfaces) → IsGraph (graph ++ more)
      → AreInterfacesOf (graph ++ more) interfaces
      → IsNarrowed (value_in_node (graph ++ more) interfaces) IsValue answer id question narrowed
  pub asks : AsksNodes (length graph) narrowed
