-- The forms that are open in a reader, and those of the machine that they are.
use Rattle.std.specs.Prelude.{◌≡◌, ℕ, false, List, [], ◌∷◌, ◌++◌, length}
use Rattle.cd_syntax.specs.Name.{Name, IsLabel}
use Rattle.cd_model.specs.Thing.{Thing, Atom, Record, Fields}
use Rattle.cd_documents.specs.Document.{is_among}
use Rattle.cd_documents.specs.Machine.{OpenTree, InTuple, InSequence, InRecord, InTag, InContent}
use Rattle.cd_cells.specs.declared.cell.ValueId.{ValueId}
use Rattle.cd_cells.specs.Cells.{name_at}
use Rattle.cd_cells.specs.Table.{IsAt}
use Rattle.cd_notation.specs.declared.form.OpenForm.{OpenForm}
use Rattle.cd_notation.specs.declared.form.OpenForm.TheVariants as form

pub data AreAt (table : List Thing) : List ValueId → List Thing → Type 0 where
  none : AreAt table [] []
  one : (id : ValueId) (value : Thing) (ids : List ValueId) (values : List Thing)
      → IsAt table id.0 value → AreAt table ids values → AreAt table (id ∷ ids) (value ∷ values)

-- the label with this number is this one
pub record IsLabelAt (names : List Name) (number : ℕ) (label : Name) : Type 0 where
  pub sound : IsLabel label
  pub is : name_at names number ≡ label

pub data AreLabelsAt (names : List Name) : List ℕ → List Name → Type 0 where
  none : AreLabelsAt names [] []
  one : (number : ℕ) (label : Name) (numbers : List ℕ) (labels : List Name)
      → IsLabelAt names number label → AreLabelsAt names numbers labels
      → AreLabelsAt names (number ∷ numbers) (label ∷ labels)

-- no label stands twice
abbrev pub AreDistinct : List Name → Type 0
AreDistinct [] = Unit {0}
AreDistinct (label ∷ labels) = (is_among label labels ≡ false) × AreDistinct labels

-- a stack with this upper part, under which so many are left
pub record IsTop {X : Type 0} (from : ℕ) (top below all : List X) : Type 0 where
  pub is : all ≡ top ++ below
  pub under : from ≡ length below

-- the items of a form
pub record HasItems (table : List Thing) (from : ℕ) (items below : List ValueId)
    (values : List Thing) : Type 0 where
  pub top : List ValueId
  pub is : IsTop from top below items
  pub at : AreAt table top values

-- the labels of a form
pub record HasLabels (names : List Name) (from : ℕ) (numbers below : List ℕ)
    (labels : List Name) : Type 0 where
  pub top : List ℕ
  pub is : IsTop from top below numbers
  pub at : AreLabelsAt names top labels
  pub apart : AreDistinct labels

-- the forms of a reader, with its items and its labels, the last one of each first
pub data IsOpen (names : List Name) (table : List Thing)
    : List OpenForm → List ValueId → List ℕ → List OpenTree → Type 0 where
  nothing : IsOpen names table [] [] [] []
  tuple : (from : ℕ) (forms : List OpenForm) (items below : List ValueId) (labels : List ℕ)
      (values : List Thing) (trees : List OpenTree) → HasItems table from items below values
      → IsOpen names table forms below labels trees
      → IsOpen names table (form.Tuple from ∷ forms) items labels (InTuple values ∷ trees)
  sequence : (from : ℕ) (forms : List OpenForm) (items below : List ValueId) (labels : List ℕ)
      (values : List Thing) (trees : List OpenTree) → HasItems table from items below values
      → IsOpen names table forms below labels trees
      → IsOpen names table (form.Sequence from ∷ forms) items labels (InSequence values ∷ trees)
  fields : (first from : ℕ) (forms : List OpenForm) (items below : List ValueId)
      (numbers below_numbers : List ℕ) (labels : List Name) (values : List Thing)
      (trees : List OpenTree) → HasLabels names first numbers below_numbers labels
      → HasItems table from items below values
      → IsOpen names table forms below below_numbers trees
      → IsOpen names table (form.Record first from ∷ forms) items numbers
      (InRecord labels values ∷ trees)
  tag : (tag : ValueId) (name : Name) (first from : ℕ) (forms : List OpenForm)
      (items below : List ValueId) (numbers below_numbers : List ℕ) (labels : List Name)
      (values : List Thing) (trees : List OpenTree) → IsAt table tag.0 (Atom name)
      → HasLabels names first numbers below_numbers labels
      → HasItems table from items below values
      → IsOpen names table forms below below_numbers trees
      → IsOpen names table (form.Tag tag first from ∷ forms) items numbers
      (InTag name labels values ∷ trees)
  content : (tag attributes : ValueId) (name : Name) (all : Fields) (forms : List OpenForm)
      (items : List ValueId) (numbers : List ℕ) (trees : List OpenTree)
      → IsAt table tag.0 (Atom name) → IsAt table attributes.0 (Record all)
      → IsOpen names table forms items numbers trees
      → IsOpen names table (form.Content tag attributes ∷ forms) items numbers
      (InContent name all ∷ trees)
