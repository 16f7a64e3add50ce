-- The nodes that hold what the variables of a kernel capture.
use Rattle.std.specs.Prelude.{◌≡◌, ◌++◌, ℕ, Bool, List, length, Some}
use Rattle.std.specs.List.{slice_get}
use Rattle.cd_sets.specs.declared.node_id.NodeId.{NodeId}
use Rattle.cd_model.specs.Formula.{Graph, IsGraph}
use Rattle.cd_model.specs.Interfaces.{Interfaces, value_in_node}
use Rattle.cd_model.specs.Thing.{Thing, IsValue}
use Rattle.cd_matching.specs.Kernel.{Kernel}
use Rattle.cd_products.specs.Products.{AreInterfacesOf}
use Rattle.cd_filter.specs.Accepting.{AreRight}
use Rattle.cd_filter.specs.CapturedNodes.{IsExactCapture, IsWideCapture}

module _ (graph : Graph) (matched : NodeId) (kernel : Kernel NodeId) (ids : List NodeId) where
  -- each variable's node holds exactly the elements that it captures
  abbrev pub AreExactCaptures : Type 0
  AreExactCaptures = (variable : ℕ) (id : NodeId) → slice_get ids variable ≡ Some id
      → IsExactCapture graph matched kernel variable id

  -- and each value that it captures, in each longer graph, under the interfaces of that graph
  abbrev pub AreWideCaptures : Type 0
  AreWideCaptures = (more : Graph) (interfaces : Interfaces) (test : NodeId → Thing → Bool)
      (variable : ℕ) (id : NodeId) → IsGraph (graph ++ more)
      → AreInterfacesOf (graph ++ more) interfaces
      → AreRight (value_in_node (graph ++ more) interfaces) IsValue (length graph) test
      → slice_get ids variable ≡ Some id
      → IsWideCapture (graph ++ more) interfaces matched kernel variable id test
