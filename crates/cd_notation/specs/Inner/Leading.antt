-- What a reader stands for, and where its steps lead.
use Rattle.std.specs.Prelude.{◌≡◌, ◌<◌, ◌≤◌, ◌⊎◌, ◌++◌, ℕ, List, [], ◌∷◌, length}
use Rattle.std.specs.Prelude.{Option, Some, None}
use Rattle.std.specs.Prelude.{Result, Ok, Err}
use Rattle.cd_syntax.specs.Name.{Name}
use Rattle.cd_model.specs.Thing.{Thing, NoField, Record}
use Rattle.cd_documents.specs.Machine.{AtValue, AtItem, AfterPart, AtField, AfterField}
use Rattle.cd_documents.specs.Machine.{AtTag, AtAttribute, AfterAttribute, AtEqual, Done}
use Rattle.cd_documents.specs.Machine.{OpenTree, InTag, State, state, letters_onto, with_fields}
use Rattle.cd_documents.specs.Machine as machine
use Rattle.cd_cells.specs.declared.values.Values.{Values}
use Rattle.cd_cells.specs.declared.cell.ValueId.{ValueId}
use Rattle.cd_cells.specs.declared.cell.Part.{Part}
use Rattle.cd_cells.specs.Cells.{thing_at}
use Rattle.cd_cells.specs.Table.{table, names, IsAt}
use Rattle.cd_notation.specs.declared.form.OpenForm.{OpenForm}
use Rattle.cd_notation.specs.declared.form.OpenForm.TheVariants as form
use Rattle.cd_notation.specs.declared.form.Expecting.{Expecting}
use Rattle.cd_notation.specs.declared.form.Expecting.TheVariants as expecting
use Rattle.cd_notation.specs.declared.reader.Reader.{Reader}
use Rattle.cd_notation.specs.declared.reader.Step.{Step}
use Rattle.cd_notation.specs.declared.reader.Step.TheVariants as step
use Rattle.cd_notation.specs.Inner.Open.{AreAt, HasItems, HasLabels, IsOpen}

-- the forms that are open in a reader
abbrev pub IsOpenIn : Values → Reader → List OpenTree → Type 0
IsOpenIn values reader trees =
    IsOpen (names values) (table values) reader.forms reader.items reader.labels trees

abbrev pub HasForms : Values → Reader → Type 0
HasForms values reader = (trees : List OpenTree) × IsOpenIn values reader trees

abbrev pub plain_expecting : List Thing → Expecting → machine.Expecting
plain_expecting table expecting.Value = AtValue
plain_expecting table expecting.Item = AtItem
plain_expecting table expecting.AfterPart = AfterPart
plain_expecting table expecting.Field = AtField
plain_expecting table expecting.AfterField = AfterField
plain_expecting table expecting.Tag = AtTag
plain_expecting table expecting.Attribute = AtAttribute
plain_expecting table expecting.AfterAttribute = AfterAttribute
plain_expecting table expecting.Equal = AtEqual
plain_expecting table (expecting.Nothing id) = Done (thing_at table id.0)

-- a tag without a name is no form of a reader yet
abbrev pub trees_at : Expecting → List OpenTree → List OpenTree
trees_at expecting.Tag trees = InTag [] [] [] ∷ trees
trees_at _ trees = trees

-- the value that was read is one of the table
abbrev pub IsWithin : List Thing → Expecting → Type 0
IsWithin table (expecting.Nothing id) = id.0 < length table
IsWithin table _ = Unit {0}

-- the state of the machine
pub record Stands (values : Values) (next : Expecting) (reader : Reader) (now : State)
    : Type 0 where
  pub trees : List OpenTree
  pub forms : IsOpenIn values reader trees
  pub is : now ≡ state (plain_expecting (table values) next) (trees_at next trees)
  pub within : IsWithin (table values) next

-- the reader goes on where the machine does
abbrev pub Leads : Option State → Values → Option Expecting → Reader → Type 0
Leads (Some now) values (Some next) reader = Stands values next reader now
Leads None values None reader = Unit {0}
Leads _ values _ reader = ⊥

-- from the forms that were open
abbrev pub Follows : (List OpenTree → Option State) → (old_values : Values) (old : Reader)
    → (values : Values) → Option Expecting → (new : Reader) → Type 0
Follows go old_values old values next new = (trees : List OpenTree) → IsOpenIn old_values old trees
    → Leads (go trees) values next new

-- one step of the reader is one of the machine
abbrev pub IsStep : (from : ℕ) → Result State machine.Fault → Values → Step → Reader → Type 0
IsStep from (Ok now) values (step.Next next) reader = Stands values next reader now
IsStep from (Err (machine.Syntax at)) values step.Wrong reader = at ≡ from
IsStep from (Err (machine.TooDeep at)) values step.TooDeep reader = at ≡ from
IsStep from _ values _ reader = ⊥

-- what may come after a value in a form
abbrev pub after_value_in : OpenForm → Expecting
after_value_in (form.Tuple from) = expecting.AfterPart
after_value_in (form.Sequence from) = expecting.Item
after_value_in (form.Record first from) = expecting.AfterField
after_value_in (form.Tag tag first from) = expecting.AfterAttribute
after_value_in (form.Content tag attributes) = expecting.Value

-- where the labels of a form begin
abbrev pub labels_from : OpenForm → Option ℕ
labels_from (form.Record first from) = Some first
labels_from (form.Tag tag first from) = Some first
labels_from _ = None

-- the characters stand on the items
pub record HasLetters (table : List Thing) (characters : List ℕ) (old new : List ValueId)
    : Type 0 where
  pub top : List ValueId
  pub is : new ≡ top ++ old
  pub at : AreAt table top (letters_onto characters [])

-- the items of a form as pairs, the last one outermost
abbrev pub IsGathered : List Thing → (from : ℕ) → List ValueId → (end : ℕ) → List Thing
    → List ValueId → ℕ → Type 0
IsGathered old from items end new left made = (below : List ValueId) (values : List Thing)
    (last : Thing) → HasItems old from items below values → IsAt old end last
    → (left ≡ below) × IsAt new made (machine.pairs values last)

-- labels and values as parts
abbrev pub parts_of : List ℕ → List ValueId → List Part
parts_of (number ∷ numbers) (id ∷ ids) =
    record { label = number; value = id.0 } ∷ parts_of numbers ids
parts_of _ _ = []

-- a form with these items was open in these forms
pub record ClosesForms (values : Values) (reader : Reader) (from : ℕ) : Type 0 where
  pub below : List ValueId
  pub all : List Thing
  pub items : HasItems (table values) from reader.items below all
  pub trees : List OpenTree
  pub forms : IsOpen (names values) (table values) reader.forms below reader.labels trees

-- its items are a value
abbrev pub IsClosed : Values → Reader → (from end : ℕ) → Values → Option Expecting → Reader → Type 0
IsClosed old_values old from end values next new = (below : List ValueId) (all : List Thing)
    (last : Thing) (trees : List OpenTree) → HasItems (table old_values) from old.items below all
    → IsAt (table old_values) end last
    → IsOpen (names old_values) (table old_values) old.forms below old.labels trees
    → Leads (Some (machine.put (machine.pairs all last) trees)) values next new

-- the labels and the items of a form begin at these numbers
pub record HasFields (values : Values) (reader : Reader) (first from : ℕ) : Type 0 where
  pub below_numbers : List ℕ
  pub below : List ValueId
  pub named : List Name
  pub all : List Thing
  pub labels : HasLabels (names values) first reader.labels below_numbers named
  pub items : HasItems (table values) from reader.items below all

-- they were taken away, and their record has this number
pub record IsRecordOf (named : List Name) (all : List Thing) (below_numbers : List ℕ)
    (below : List ValueId) (values : Values) (id : ℕ) (new : Reader) : Type 0 where
  pub at : IsAt (table values) id (Record (with_fields named all NoField))
  pub labels : new.labels ≡ below_numbers
  pub items : new.items ≡ below

abbrev pub TakesRecord : Values → Reader → (first from : ℕ) → Values → (id : ℕ) → Reader → Type 0
TakesRecord values old first from new_values id new = (below_numbers : List ℕ)
    (below : List ValueId) (named : List Name) (all : List Thing)
    → HasLabels (names values) first old.labels below_numbers named
    → HasItems (table values) from old.items below all
    → IsRecordOf named all below_numbers below new_values id new

-- a label and an item of a form are taken off, as long as it has both
pub record TakesPart (first from : ℕ) (labels : List ℕ) (items : List ValueId) (part : Part)
    (new_labels : List ℕ) (new_items : List ValueId) : Type 0 where
  pub id : ValueId
  pub many_labels : first < length labels
  pub many_items : from < length items
  pub label_is : labels ≡ part.label ∷ new_labels
  pub item_is : items ≡ id ∷ new_items
  pub value_is : part.value ≡ id.0

abbrev pub IsTaken : (first from : ℕ) → List ℕ → List ValueId → Option Part → List ℕ
    → List ValueId → Type 0
IsTaken first from labels items (Some part) new_labels new_items =
    TakesPart first from labels items part new_labels new_items
IsTaken first from labels items None new_labels new_items =
    (new_labels ≡ labels) × (new_items ≡ items) × ((length labels ≤ first) ⊎ (length items ≤ from))
