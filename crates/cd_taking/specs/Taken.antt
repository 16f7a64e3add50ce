-- What a kernel takes of a value, and what the list of captures says.
use Rattle.std.specs.Prelude.{◌≡◌, ◌<◌, ℕ, Bool, true, false, List, [], ◌∷◌, Option, Some, None}
use Rattle.std.specs.Prelude.{length}
use Rattle.cd_sets.specs.declared.node_id.NodeId.{NodeId}
use Rattle.cd_model.specs.Formula.{Graph}
use Rattle.cd_model.specs.Interfaces.{Interfaces, value_in_node}
use Rattle.cd_model.specs.Thing.{Thing, IsValue, EachClosure}
use Rattle.cd_matching.specs.Captures.{Captures, nothing, joined}
use Rattle.cd_matching.specs.Kernel.{Kernel, just, taken}
use Rattle.cd_matching.specs.Takes.{IsRight}
use Rattle.cd_cells.specs.Cells.{thing_at}
use Rattle.cd_asking.specs.MappedArrows.{MapsRight}
use Rattle.cd_asking.specs.Mappings.{Mappings}
use Rattle.cd_taking.specs.declared.capture.Capture.{Capture}
use Rattle.cd_taking.specs.declared.taker.Taker.{Taker}

-- the tests are right of all values at the nodes of the graph
abbrev pub AreTests : Graph → Interfaces → (NodeId → Thing → Bool) → Type 0
AreTests graph interfaces test = (id : NodeId) → id.0 < length graph
    → IsRight (value_in_node graph interfaces) IsValue id (test id)

-- The root of the kernel takes the value with these captures, or fails, whatever the interfaces are
-- of which the table of arrows is right, and whatever tests are right
abbrev pub TakenAs : Graph → Mappings → Kernel NodeId → Thing → Option (Captures ℕ) → Type 0
TakenAs graph maps kernel v result = (interfaces : Interfaces) (test : NodeId → Thing → Bool)
    → EachClosure (MapsRight graph interfaces maps) v → AreTests graph interfaces test
    → taken NodeId test kernel.nodes v kernel.root ≡ result

-- what the last value that was taken gave the variables
abbrev pub listed : Taker → List Capture
listed taker = taker.captures.items

-- what each variable captures by such a list, where the first capture of a variable counts
abbrev pub captured : List Thing → List Capture → Captures ℕ
captured table [] = nothing
captured table (capture ∷ rest) =
    joined (just capture.variable (thing_at table capture.value.0)) (captured table rest)

-- the captures, if the value is taken
abbrev pub if_taken : Bool → Captures ℕ → Option (Captures ℕ)
if_taken true captures = Some captures
if_taken false captures = None
