-- What the numbers of the code stand for.
use Rattle.std.specs.Prelude.{◌≡◌, ◌<◌, ◌==◌, ◌&&◌, ℕ, Bool, List, [], Option, ◌∷◌, ◌++◌, map, option_map, take, drop}
use Rattle.std.specs.Prelude.{bytes_eq}
use Rattle.std.specs.Borrow.{Bor}
use Rattle.std.specs.List.{list_any}
use Rattle.cd_model.specs.AllOf.{AllOf}
use Rattle.cd_model.specs.Thing as thing
use Rattle.cd_model.specs.Thing.{Thing}
use Rattle.cd_syntax.specs.Name.{Name}
use Rattle.cd_matching.specs.PlainKernel.{plain_kernel_field, plain_node}
use Rattle.cd_matching.specs.declared.kernel.KernelField.{KernelField}
use Rattle.cd_matching.specs.declared.kernel.KernelNode.{KernelNode}
use Rattle.cd_cells.specs.Cells as cells
use Rattle.cd_cells.specs.Cells.{thing_at, name_at}
use Rattle.cd_cells.specs.declared.cell.Part.{Part}
use Rattle.cd_cells.specs.declared.cell.ValueId.{ValueId}
use Rattle.cd_matching.specs.Captures.{Captures}
use Rattle.cd_taking.specs.declared.capture.Capture.{Capture}
use Rattle.cd_taking.specs.declared.failures.Failure.{Failure}
use Rattle.cd_taking.specs.declared.fields.FieldTask.{FieldTask}
use Rattle.cd_taking.specs.declared.fields.FieldTask.TheVariants as task
use Rattle.cd_taking.specs.declared.frame.Frame.{Frame}
use Rattle.cd_taking.specs.declared.frame.Frame.TheVariants as frame
use Rattle.cd_taking.specs.declared.frame.Next.{Next}
use Rattle.cd_taking.specs.declared.frame.Next.TheVariants as next
use Rattle.cd_taking.specs.declared.taker.Taker.{Taker}
use Rattle.cd_taking.specs.Inner.Machine as plain
use Rattle.cd_taking.specs.Inner.Machine.{Caught, caught, Named, FieldWork, Ends, Lacks, Passes, Asks, Looks}
use Rattle.cd_taking.specs.Inner.Machine.{State, at}

-- the failure is in the list
abbrev pub is_known : Failure → List Failure → Bool
is_known one all = list_any (λ other. one.pair == other.pair && one.node == other.node) all

-- values by their numbers, and fields
abbrev pub both_at : List Thing → ValueId × ValueId → Thing × Thing
both_at table pair = (thing_at table pair.0.0, thing_at table pair.1.0)

abbrev pub all_at : List Thing → ValueId × ValueId × ValueId → Thing × Thing × Thing
all_at table xml = (thing_at table xml.0.0, thing_at table xml.1.0, thing_at table xml.2.0)

abbrev pub fields_by : List Name → List Thing → Bor (List Part) → thing.Fields
fields_by names table parts = cells.fields_of names table parts.now

-- a node of the kernel
abbrev pub plain_at : Bor KernelNode → plain.Node
plain_at node = plain_node node.now

-- the fields of a node, and whether there may be others
abbrev pub plain_record : Bor (List KernelField) × Bool → Named × Bool
plain_record node = (map plain_kernel_field node.0.now, node.1)

-- a value, if there is one
abbrev pub value_in : List Thing → Option ValueId → Option Thing
value_in table value = option_map (λ id. thing_at table id.0) value

-- what has to be done about a field
abbrev pub plain_task : List Thing → FieldTask → FieldWork
plain_task table task.Ends = Ends
plain_task table task.Lacks = Lacks
plain_task table task.Passes = Passes
plain_task table (task.Asks type id) = Asks type (thing_at table id.0)
plain_task table (task.Looks id node) = Looks (thing_at table id.0) node

abbrev pub IsTaskWithin : ℕ → FieldTask → Type 0
IsTaskWithin bound task.Ends = Unit {0}
IsTaskWithin bound task.Lacks = Unit {0}
IsTaskWithin bound task.Passes = Unit {0}
IsTaskWithin bound (task.Asks type id) = id.0 < bound
IsTaskWithin bound (task.Looks id node) = id.0 < bound

-- the field of a node has the label; one of these fields has that of a part
abbrev pub names_it : Name → KernelField → Bool
names_it label field = bytes_eq field.label label

abbrev pub names_part : List Name → List KernelField → Part → Bool
names_part names fields part = list_any (names_it (name_at names part.label)) fields

-- a fact, where there is something to do
abbrev pub IfTask : FieldTask → Type 0 → Type 0
IfTask task.Ends fact = Unit {0}
IfTask task.Lacks fact = Unit {0}
IfTask task.Passes fact = fact
IfTask (task.Asks type id) fact = fact
IfTask (task.Looks id node) fact = fact

-- a capture
abbrev pub plain_capture : List Thing → Capture → Caught
plain_capture table capture = (capture.variable, thing_at table capture.value.0)

abbrev pub IsCaptureWithin : ℕ → Capture → Type 0
IsCaptureWithin bound capture = capture.value.0 < bound

abbrev pub is_variable : ℕ → Capture → Bool
is_variable variable capture = capture.variable == variable

-- what is captured from the mark on becomes what `gathers` makes of it
pub record IsGathered (gathers : Captures ℕ → Captures ℕ) (table : List Thing) (mark : ℕ)
    (old new : List Capture) : Type 0 where
  pub more : List Capture
  pub is : new ≡ take mark old ++ more
  pub gives : caught (map (plain_capture table) more)
      ≡ gathers (caught (map (plain_capture table) (drop mark old)))

-- frames, failures, and what is done next
abbrev pub plain_frame : List Thing → Frame → plain.Frame
plain_frame table (frame.Or value second mark) = plain.Or (thing_at table value.0) second mark
plain_frame table (frame.And value second) = plain.And (thing_at table value.0) second
plain_frame table (frame.First pair node) = plain.First (thing_at table pair.0) node
plain_frame table (frame.Second pair node mark) = plain.Second (thing_at table pair.0) node mark
plain_frame table (frame.Tag xml node) = plain.Tag (thing_at table xml.0) node
plain_frame table (frame.Attributes xml node) = plain.Attributes (thing_at table xml.0) node
plain_frame table (frame.Field value node from) = plain.Field (thing_at table value.0) node from

abbrev pub plain_failure : List Thing → Failure → plain.Failure
plain_failure table failure = (thing_at table failure.pair, failure.node)

abbrev pub plain_next : List Thing → Next → plain.Part
plain_next table (next.Look value node) = plain.Look (thing_at table value.0) node
plain_next table (next.Fields value node from) = plain.Fields (thing_at table value.0) node from
plain_next table next.Yes = plain.Yes
plain_next table next.No = plain.No

abbrev pub state : List Thing → Taker → Next → State
state table taker next = at (map (plain_frame table) taker.frames)
    (map (plain_capture table) taker.captures.items) (map (plain_failure table) taker.failures)
    (plain_next table next)

-- all numbers of values are below this one
abbrev pub IsFrameWithin : ℕ → Frame → Type 0
IsFrameWithin bound (frame.Or value second mark) = value.0 < bound
IsFrameWithin bound (frame.And value second) = value.0 < bound
IsFrameWithin bound (frame.First pair node) = pair.0 < bound
IsFrameWithin bound (frame.Second pair node mark) = pair.0 < bound
IsFrameWithin bound (frame.Tag xml node) = xml.0 < bound
IsFrameWithin bound (frame.Attributes xml node) = xml.0 < bound
IsFrameWithin bound (frame.Field value node from) = value.0 < bound

abbrev pub IsFailureWithin : ℕ → Failure → Type 0
IsFailureWithin bound failure = failure.pair < bound

abbrev pub IsNextWithin : ℕ → Next → Type 0
IsNextWithin bound (next.Look value node) = value.0 < bound
IsNextWithin bound (next.Fields value node from) = value.0 < bound
IsNextWithin bound next.Yes = Unit {0}
IsNextWithin bound next.No = Unit {0}

pub record IsWithin (bound : ℕ) (taker : Taker) : Type 0 where
  pub frames : AllOf (IsFrameWithin bound) taker.frames
  pub captures : AllOf (IsCaptureWithin bound) taker.captures.items
  pub failures : AllOf (IsFailureWithin bound) taker.failures

-- a frame is put on the top, or stands there
pub record Pushes (one : Frame) (old new : Taker) : Type 0 where
  pub frames : new.frames ≡ one ∷ old.frames
  pub captures : new.captures ≡ old.captures
  pub failures : new.failures ≡ old.failures

-- a capture is put after the others
pub record Catches (one : Capture) (old new : Taker) : Type 0 where
  pub frames : new.frames ≡ old.frames
  pub captures : new.captures.items ≡ old.captures.items ++ one ∷ []
  pub failures : new.failures ≡ old.failures

-- the first captures stay
pub record Cuts (count : ℕ) (old new : Taker) : Type 0 where
  pub frames : new.frames ≡ old.frames
  pub captures : new.captures.items ≡ take count old.captures.items
  pub failures : new.failures ≡ old.failures

abbrev pub on_top : Frame → Taker → Taker
on_top one taker = record taker { frames = one ∷ taker.frames }
