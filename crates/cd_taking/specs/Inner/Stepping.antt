-- What the contracts of steps say.
use Rattle.std.specs.Prelude.{◌≡◌, ◌<◌, Bool, List, length}
use Rattle.cd_sets.specs.declared.node_id.NodeId.{NodeId}
use Rattle.cd_model.specs.Formula.{Graph}
use Rattle.cd_model.specs.Interfaces.{Interfaces, value_in_node}
use Rattle.cd_model.specs.Thing.{Thing, IsValue, EachClosure}
use Rattle.cd_matching.specs.Kernel.{IsSound}
use Rattle.cd_matching.specs.PlainKernel.{plain_kernel, plain_nodes}
use Rattle.cd_matching.specs.declared.kernel.Kernel.{Kernel}
use Rattle.cd_graph.specs.Nodes.{nodes}
use Rattle.cd_cells.specs.Table.{names, Grows}
use Rattle.cd_cells.specs.declared.values.Values.{Values}
use Rattle.cd_asking.specs.Known.{KnowsOf}
use Rattle.cd_asking.specs.MappedArrows.{MapsRight}
use Rattle.cd_asking.specs.Mappings.{Mappings}
use Rattle.cd_taking.specs.declared.frame.Next.{Next}
use Rattle.cd_taking.specs.declared.taker.Taker.{Taker}
use Rattle.cd_taking.specs.declared.type_tests.Tests.{Tests}
use Rattle.cd_taking.specs.Inner.Machine.{Node, Step}
use Rattle.cd_taking.specs.Inner.Coded.{state, IsNextWithin, IsWithin}

-- the answer is right of a value at a node of the graph
pub record Asked (graph : Graph) (maps : Mappings) (type : NodeId) (d : Thing) (answer : Bool)
    : Type 0 where
  pub sound : IsValue d
  pub within : type.0 < length graph
  pub right : (interfaces : Interfaces) → EachClosure (MapsRight graph interfaces maps) d
      → value_in_node graph interfaces d type answer

-- the code takes one step of the machine, and its numbers are those of values
pub record Steps (graph : Graph) (maps : Mappings) (all : List Node) (table after : List Thing)
    (old new : Taker) (was next : Next) : Type 0 where
  pub step : Step (Asked graph maps) all (state table old was) (state after new next)
  pub within : IsWithin (length after) new
  pub next_within : IsNextWithin (length after) next

-- whatever is asked
abbrev pub Moves : Kernel → (table after : List Thing) → (old new : Taker) → (was next : Next)
    → Type 0
Moves kernel table after old new was next = (graph : Graph) (maps : Mappings)
    → Steps graph maps (plain_nodes kernel.nodes.items) table after old new was next

-- the graph and the table of arrows stay, and what is known is right
pub record TestsStay (old new : Tests) (values after : Values) : Type 0 where
  pub graph : new.graph ≡ old.graph
  pub maps : new.maps ≡ old.maps
  pub knows : KnowsOf (nodes new.graph) (names after) new.asker
  pub grows : Grows values after

-- the kernel is sound over the graph
abbrev pub IsKernelOf : Tests → Kernel → Type 0
IsKernelOf tests kernel = IsSound (λ type. type.0 < length (nodes tests.graph))
    (plain_kernel kernel)
