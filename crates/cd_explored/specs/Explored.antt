-- A table that is explored: what its places are, and that the steps of each are those of its node.
use Rattle.std.specs.Prelude.{◌<◌, ◌++◌, ℕ, Bool, true, false, List, length, Option}
use Rattle.cd_sets.specs.declared.node_id.NodeId.{NodeId}
use Rattle.cd_sets.specs.declared.question.Question.{Question}
use Rattle.cd_model.specs.AllOf.{AllOf}
use Rattle.cd_model.specs.Formula.{Graph, IsGraph, in_node}
use Rattle.cd_model.specs.Interfaces.{Interfaces, value_in_node}
use Rattle.cd_model.specs.Thing.{Thing, IsElement, IsValue}
use Rattle.cd_matching.specs.Kernel.{Kernel}
use Rattle.cd_rules.specs.Family.{AsksNodes}
use Rattle.cd_products.specs.Products.{AreInterfacesOf}
use Rattle.cd_filter.specs.Accepting.{AreRight}
use Rattle.cd_filter.specs.Capturing.{IsAccepted, IsSettled, IsInhabitedPlace}
use Rattle.cd_filter.specs.Table.{Place, Step, Leads, Gathers, Table, HasPlace, HasStep}

module _ (graph : Graph) (kernel : Kernel NodeId) where
  -- all elements that come to the place are taken
  abbrev pub IsAcceptedPlace : Place → Type 0
  IsAcceptedPlace place = (test : NodeId → Thing → Bool)
      → AreRight (in_node graph) IsElement (length graph) test
      → IsAccepted (in_node graph) IsElement test kernel.nodes place

  -- a place at a node of the kernel, whose question asks nodes of the graph, and all of whose
  -- elements are taken
  pub record IsPlace (place : Place) : Type 0 where
    pub number : place.number < length kernel.nodes
    pub asks : AsksNodes (length graph) place.question
    pub accepted : IsAcceptedPlace place

  module _ (accepts : ℕ → NodeId) where
    -- the place has the steps of its node; or none, where no element and no value comes there
    pub record IsSettledPlace (entry : Place × List Step) : Type 0 where
      pub elements : IsSettled (in_node graph) IsElement kernel.nodes true accepts entry
      pub inhabited : IsInhabitedPlace (in_node graph) IsElement entry
      pub values : (more : Graph) (interfaces : Interfaces) → IsGraph (graph ++ more)
          → AreInterfacesOf (graph ++ more) interfaces
          → IsSettled (value_in_node (graph ++ more) interfaces) IsValue kernel.nodes false accepts
          entry

    -- each place is settled, and each place that steps lead to is there
    pub record IsExplored (root : Place) (table : Table) : Type 0 where
      pub rooted : HasPlace table root
      pub places : AllOf (λ entry. IsPlace entry.0) table
      pub settled : AllOf IsSettledPlace table
      pub leads : (place next : Place) (but : Option ℕ) → HasStep table place (Leads but next)
          → HasPlace table next
      pub gathers : (place next : Place) (variable : ℕ) (item : Question)
          → HasStep table place (Gathers variable item next) → HasPlace table next
