-- What the numbers of the code stand for.
use Rattle.std.specs.Prelude.{◌≡◌, ℕ, ◌+◌, ◌<◌, ◌≤◌, ◌⊎◌, List, [], ◌∷◌, ◌++◌, map, length}
use Rattle.std.specs.Prelude.{slice_index_or}
use Rattle.std.specs.Str.{chars}
use Rattle.cd_sets.specs.declared.node_id.NodeId.{NodeId}
use Rattle.cd_syntax.specs.Name.{Name, IsLabel}
use Rattle.cd_model.specs.AllOf.{AllOf}
use Rattle.cd_model.specs.Formula.{Graph}
use Rattle.cd_model.specs.Thing.{Thing}
use Rattle.cd_cells.specs.Cells.{thing_at, name_at, fields_of, IsPart}
use Rattle.cd_asking.specs.Inner.Rows.{row_at}
use Rattle.cd_asking.specs.Inner.Shapes as plain
use Rattle.cd_asking.specs.Inner.Shapes.{Nodes, Closed, members, shape_of}
use Rattle.cd_asking.specs.Inner.Tasks as child
use Rattle.cd_asking.specs.Inner.Tasks.{among, answered, after, size, weight}
use Rattle.cd_asking.specs.MappedArrows.{maps_at}
use Rattle.cd_cells.specs.declared.cell.Look.{Look}
use Rattle.cd_cells.specs.declared.cell.Look.TheVariants as look
use Rattle.cd_asking.specs.declared.asker.Asker.{Asker}
use Rattle.cd_asking.specs.declared.node_sets.SetId.{SetId}
use Rattle.cd_asking.specs.declared.row.Answered.{Answered}
use Rattle.cd_asking.specs.declared.row.RowId.{RowId}
use Rattle.cd_asking.specs.declared.led.Child.{Child as CodeChild}
use Rattle.cd_asking.specs.declared.led.Child.TheVariants.{First, Second, Tag, Attributes}
use Rattle.cd_asking.specs.declared.led.Child.TheVariants.{Content, At}
use Rattle.cd_asking.specs.declared.shape.Shape.{Shape as CodeShape}
use Rattle.cd_asking.specs.declared.shape.Shape.TheVariants.{Integer, Character, Atom, Pair}
use Rattle.cd_asking.specs.declared.shape.Shape.TheVariants.{Xml, Record, Closure}
use Rattle.cd_asking.specs.declared.shape.Held.{Held}
use Rattle.cd_asking.specs.declared.case.Case.{Case}
use Rattle.cd_asking.specs.declared.case.Case.TheVariants as case
use Rattle.cd_asking.specs.declared.task.Task.{Task}
use Rattle.cd_asking.specs.declared.task.Task.TheVariants as code
use Rattle.cd_asking.specs.declared.task.Next.{Next}
use Rattle.cd_asking.specs.declared.task.Next.TheVariants.{Answer, Ask}

-- the set of a number; a number that has none stands for the empty set
abbrev pub set_at : List (List NodeId) → SetId → List NodeId
set_at sets id = slice_index_or sets id.0 []

-- a child, where the label is this one
abbrev pub child_by : Name → CodeChild → child.Child
child_by label First = child.First
child_by label Second = child.Second
child_by label Tag = child.Tag
child_by label Attributes = child.Attributes
child_by label Content = child.Content
child_by label (At number) = child.At label

-- a field, and a value, whose parts are known by the nodes that hold them
abbrev pub held : Held → Name × Nodes
held field = (chars field.label.now, among field.nodes.now)

abbrev pub plain_shape : CodeShape → plain.Shape
plain_shape (Integer n) = plain.Integer n
plain_shape (Character c) = plain.Character c
plain_shape (Atom name) = plain.Atom (chars name.now)
plain_shape (Pair first second) = plain.Pair (among first.now) (among second.now)
plain_shape (Xml tag attributes content) =
    plain.Xml (among tag.now) (among attributes.now) (among content.now)
plain_shape (Record fields) = plain.Record (map held fields.now)
plain_shape (Closure maps function) = plain.Function (maps_at maps.now function)

-- the name of an atom is a label
abbrev pub HasLabel : CodeShape → Type 0
HasLabel (Atom name) = IsLabel (chars name.now)
HasLabel _ = Unit {0}

-- the value has parts
abbrev pub HasParts : Look → Type 0
HasParts (look.Pair first second) = Unit {0}
HasParts (look.Xml tag attributes content) = Unit {0}
HasParts (look.Record parts) = 0 < length parts.now
HasParts _ = ⊥

-- more may stand after what was there
abbrev pub Grow : {X : Type 0} → (old new : List X) → Type 0
Grow {X} old new = (more : List X) × (new ≡ old ++ more)

-- nothing but this one may stand after it
abbrev pub AddsOnly : {X : Type 0} → X → (old new : List X) → Type 0
AddsOnly one old new = (new ≡ old) ⊎ (new ≡ old ++ one ∷ [])

-- sets and rows are only added
abbrev pub Grows : (old new : Asker) → Type 0
Grows old new = Grow old.sets new.sets × Grow old.rows new.rows

-- the nodes have numbers below this one
abbrev pub AreBelow : ℕ → List NodeId → Type 0
AreBelow bound set = AllOf (λ id. id.0 < bound) set

-- the sets are of nodes of the graph
abbrev pub AreNodesOf : Graph → List (List NodeId) → Type 0
AreNodesOf graph sets = AllOf (AreBelow (length graph)) sets

-- the answer is the number of those of these nodes that hold the value
abbrev pub Found : Graph → plain.Shape → List NodeId → List (List NodeId) → (answer : SetId)
    → Type 0
Found graph shape set sets answer =
    (answer.0 < length sets) × (set_at sets answer ≡ members graph shape set)

module _ (names : List Name) where
  abbrev pub plain_child : CodeChild → child.Child
  plain_child First = child.First
  plain_child Second = child.Second
  plain_child Tag = child.Tag
  plain_child Attributes = child.Attributes
  plain_child Content = child.Content
  plain_child (At number) = child.At (name_at names number)

  -- a field that has answered, by the nodes that hold its value
  abbrev pub done_by : List (List NodeId) → Answered → Name × List NodeId
  done_by sets field = (name_at names field.label, set_at sets field.nodes)

  -- it has a label, and its nodes are one of so many sets
  abbrev pub IsField : (sets : ℕ) → Answered → Type 0
  IsField sets field = IsLabel (name_at names field.label) × (field.nodes.0 < sets)

  -- a value by the sets of the nodes that hold its parts; a record has these fields
  abbrev pub shape_with : List (List NodeId) → List (Name × Nodes) → Case → plain.Shape
  shape_with sets fields (case.Letter c) = plain.Character c
  shape_with sets fields (case.Atom name) = plain.Atom (name_at names name)
  shape_with sets fields (case.Pair first second) =
      plain.Pair (among (set_at sets first)) (among (set_at sets second))
  shape_with sets fields (case.Xml tag attributes content) =
      plain.Xml (among (set_at sets tag)) (among (set_at sets attributes))
      (among (set_at sets content))
  shape_with sets fields (case.Record row) = plain.Record fields

  -- the name of an atom is a label
  abbrev pub IsCase : Case → Type 0
  IsCase (case.Atom name) = IsLabel (name_at names name)
  IsCase _ = Unit {0}

  module _ (sets : List (List NodeId)) (rows : List (List Answered)) where
    -- the fields of a record
    abbrev pub fields_by : Case → List (Name × Nodes)
    fields_by (case.Record row) = answered (map (done_by sets) (row_at rows row))
    fields_by _ = []

    abbrev pub shape_by : Case → plain.Shape
    shape_by is = shape_with sets (fields_by is) is

    -- there is such a row, and its fields have labels and sets
    abbrev pub IsRow : RowId → Type 0
    IsRow row = (row.0 ≤ length rows) × AllOf (IsField (length sets)) (row_at rows row)

    -- the numbers of a case name sets and a row
    abbrev pub IsCaseWithin : Case → Type 0
    IsCaseWithin (case.Pair first second) = (first.0 < length sets) × (second.0 < length sets)
    IsCaseWithin (case.Xml tag attributes content) =
        (tag.0 < length sets) × (attributes.0 < length sets) × (content.0 < length sets)
    IsCaseWithin (case.Record row) = IsRow row
    IsCaseWithin _ = Unit {0}

  -- a task over the values of a table
  abbrev pub plain_task : List Thing → Asker → Task → child.Task
  plain_task table asker (code.OfSecond second set) =
      child.OfSecond (thing_at table second.0) (set_at asker.sets set)
  plain_task table asker (code.OfPairs set first count) =
      child.OfPairs (set_at asker.sets set) (set_at asker.sets first) count
  plain_task table asker (code.OfAttributes attributes content set) =
      child.OfAttributes (thing_at table attributes.0) (thing_at table content.0)
      (set_at asker.sets set)
  plain_task table asker (code.OfContent content set tag) =
      child.OfContent (thing_at table content.0) (set_at asker.sets set) (set_at asker.sets tag)
  plain_task table asker (code.OfXml set tag attributes) =
      child.OfXml (set_at asker.sets set) (set_at asker.sets tag) (set_at asker.sets attributes)
  plain_task table asker (code.OfField set row label left) =
      child.OfField (set_at asker.sets set) (map (done_by asker.sets) (row_at asker.rows row))
      (name_at names label) (fields_of names table left.now)

  -- what is done next makes this of the sets
  abbrev pub made : Graph → Closed → List Thing → Asker → Next → List NodeId
  made graph closed table asker (Answer answer) = set_at asker.sets answer
  made graph closed table asker (Ask id set task) =
      after graph closed (plain_task table asker task)
      (members graph (shape_of graph closed (thing_at table id.0)) (set_at asker.sets set))

  -- and has so much to do
  abbrev pub left_to_do : List Thing → Asker → Next → ℕ
  left_to_do table asker (Answer answer) = 0
  left_to_do table asker (Ask id set task) =
      size (thing_at table id.0) + weight (plain_task table asker task)

  -- the numbers of a task name values, sets and a row
  abbrev pub IsTask : (values : ℕ) → Asker → Task → Type 0
  IsTask values asker (code.OfSecond second set) =
      (second.0 < values) × (set.0 < length asker.sets)
  IsTask values asker (code.OfPairs set first count) =
      (set.0 < length asker.sets) × (first.0 < length asker.sets)
  IsTask values asker (code.OfAttributes attributes content set) =
      (attributes.0 < values) × (content.0 < values) × (set.0 < length asker.sets)
  IsTask values asker (code.OfContent content set tag) =
      (content.0 < values) × (set.0 < length asker.sets) × (tag.0 < length asker.sets)
  IsTask values asker (code.OfXml set tag attributes) = (set.0 < length asker.sets)
      × (tag.0 < length asker.sets) × (attributes.0 < length asker.sets)
  IsTask values asker (code.OfField set row label left) = (set.0 < length asker.sets)
      × IsRow asker.sets asker.rows row × IsLabel (name_at names label)
      × AllOf (IsPart names values) left.now

  abbrev pub IsNext : (values : ℕ) → Asker → Next → Type 0
  IsNext values asker (Answer answer) = answer.0 < length asker.sets
  IsNext values asker (Ask id set task) =
      (id.0 < values) × (set.0 < length asker.sets) × IsTask values asker task

-- What is done next makes these nodes, takes fewer steps than so many, and is over what there is
pub record IsStep (names : List Name) (graph : Graph) (closed : Closed) (table : List Thing)
    (asker : Asker) (nodes : List NodeId) (work : ℕ) (next : Next) : Type 0 where
  pub makes : made names graph closed table asker next ≡ nodes
  pub falls : left_to_do names table asker next < work
  pub numbers : IsNext names (length table) asker next
