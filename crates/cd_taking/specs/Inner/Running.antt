-- The steps in turn.
use Rattle.std.specs.Prelude.{◌≡◌, Bool, List, [], Option, Some, None, length}
use Rattle.cd_sets.specs.declared.node_id.NodeId.{NodeId}
use Rattle.cd_model.specs.Formula.{Graph}
use Rattle.cd_model.specs.Interfaces.{Interfaces}
use Rattle.cd_model.specs.Thing.{Thing, EachClosure}
use Rattle.cd_matching.specs.Kernel.{taken}
use Rattle.cd_matching.specs.PlainKernel.{plain_nodes}
use Rattle.cd_matching.specs.declared.kernel.Kernel.{Kernel}
use Rattle.cd_graph.specs.Nodes.{nodes}
use Rattle.cd_cells.specs.Table.{table}
use Rattle.cd_cells.specs.declared.values.Values.{Values}
use Rattle.cd_asking.specs.MappedArrows.{MapsRight}
use Rattle.cd_asking.specs.Mappings.{Mappings}
use Rattle.cd_taking.specs.declared.frame.Doing.{Doing}
use Rattle.cd_taking.specs.declared.frame.Doing.TheVariants.{Goes, Ends}
use Rattle.cd_taking.specs.declared.frame.Frame.{Frame}
use Rattle.cd_taking.specs.declared.frame.Next.{Next}
use Rattle.cd_taking.specs.declared.taker.Taker.{Taker}
use Rattle.cd_taking.specs.declared.type_tests.Tests.{Tests}
use Rattle.cd_taking.specs.Taken.{AreTests}
use Rattle.cd_taking.specs.Inner.Machine.{Node, answered}
use Rattle.cd_taking.specs.Inner.Meaning.{Leads}
use Rattle.cd_taking.specs.Inner.Coded.{plain_next, state, on_top, IsWithin, IsNextWithin}
use Rattle.cd_taking.specs.Inner.Stepping.{Steps, TestsStay}

-- nothing is left to do, nothing is captured, and no failure is known
pub record IsClear (taker : Taker) : Type 0 where
  pub frames : taker.frames ≡ []
  pub captures : taker.captures.items ≡ []
  pub failures : taker.failures ≡ []

-- the frame on the top is taken away, if there is one
pub record IsEmptied (old new : Taker) : Type 0 where
  pub frames : old.frames ≡ []
  pub captures : new.captures ≡ old.captures

abbrev pub Pops : Option Frame → (old new : Taker) → Type 0
Pops None old new = IsEmptied old new
Pops (Some one) old new = old ≡ on_top one new

-- nothing was left to do, and this is the answer
pub record HasEnded (table after : List Thing) (old new : Taker) (was : Next) (answer : Bool)
    : Type 0 where
  pub emptied : IsEmptied old new
  pub things : after ≡ table
  pub is : plain_next table was ≡ answered answer

-- one step is made, or nothing was left to do
abbrev pub IsDoing : Graph → Mappings → List Node → (table after : List Thing)
    → (old new : Taker) → (was : Next) → Doing → Type 0
IsDoing graph maps all table after old new was (Goes next) =
    Steps graph maps all table after old new was next
IsDoing graph maps all table after old new was (Ends answer) =
    HasEnded table after old new was answer

-- whatever is asked
abbrev pub Acts : Kernel → (table after : List Thing) → (old new : Taker) → (was : Next) → Doing
    → Type 0
Acts kernel table after old new was doing = (graph : Graph) (maps : Mappings)
    → IsDoing graph maps (plain_nodes kernel.nodes.items) table after old new was doing

-- what is left to do leads to what the root of the kernel takes
pub record IsRunning (kernel : Kernel) (first : Tests) (start : Values) (v : Thing) (tests : Tests)
    (values : Values) (taker : Taker) (next : Next) : Type 0 where
  pub stays : TestsStay first tests start values
  pub within : IsWithin (length (table values)) taker
  pub next_within : IsNextWithin (length (table values)) next
  pub leads : (interfaces : Interfaces) (test : NodeId → Thing → Bool)
      → EachClosure (MapsRight (nodes first.graph) interfaces first.maps) v
      → AreTests (nodes first.graph) interfaces test
      → Leads test (plain_nodes kernel.nodes.items)
      (taken NodeId test (plain_nodes kernel.nodes.items) v kernel.root)
      (MapsRight (nodes first.graph) interfaces first.maps) (state (table values) taker next)
