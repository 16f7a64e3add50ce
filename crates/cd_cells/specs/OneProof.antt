-- What a table keeps of its cells has at most one proof, as a ghost field wants.
use Rattle.std.specs.Prelude.{ℕ, Bool, List, [], ◌∷◌, ◌++◌, Option, Some, None, length}
use Rattle.std.proofs.Props.{props}
use Rattle.std.specs.Coded.{×_prop, Π_prop, Unit-prop}
use Rattle.cd_model.specs.AllOf.{AllOf}
use Rattle.cd_syntax.specs.Name.{Name, IsAbove}
use Rattle.cd_model.specs.Thing as thing
use Rattle.cd_model.specs.Thing.{Thing, Fields, NoField, Field, IsAtom, IsRecord, LabelsRise}
use Rattle.cd_cells.specs.declared.cell.Part.{Part}
use Rattle.cd_cells.specs.declared.cell.ValueId.{ValueId}
use Rattle.cd_cells.specs.declared.cell.Stored.{Stored}
use Rattle.cd_cells.specs.declared.cell.Stored.TheVariants.{Pair, Xml, Short, Wide, Letter, Atom}
use Rattle.cd_cells.specs.declared.cell.Stored.TheVariants.{Record, Closure}
use Rattle.cd_cells.specs.declared.lists.Lists.{Lists}
use Rattle.cd_cells.specs.declared.shared.Shared.{Shared}
use Rattle.cd_cells.specs.Cells.{thing_at, fields_at, parts_at, thing_by, IsPart, AreParts}
use Rattle.cd_cells.specs.Cells.{IsStored, AreStored}
use Rattle.cd_cells.specs.Slots.{slot_at}
use Rattle.cd_cells.specs.SharedCells.{is_letter, is_atom, is_nil, has_no_fields}
use Rattle.cd_cells.specs.SharedCells.{IsNoneOrWith, EachIsWith, AreShared}

above_prop : (before : Option Name) (label : Name) → IsProp (IsAbove before label)
above_prop None label = Unit-prop
above_prop (Some before) label = hlevel props

rise_prop : (before : Option Name) (fields : Fields) → IsProp (LabelsRise before fields)
rise_prop before NoField = Unit-prop
rise_prop before (Field label value rest) =
    ×_prop (above_prop before label) (rise_prop (Some label) rest)

atom_prop : (t : Thing) → IsProp (IsAtom t)
atom_prop (thing.Atom name) = Unit-prop
atom_prop _ = hlevel

record_prop : (t : Thing) → IsProp (IsRecord t)
record_prop (thing.Record fields) = Unit-prop
record_prop _ = hlevel

each_prop : (names : List Name) (bound : ℕ) (parts : List Part)
    → IsProp (AllOf (IsPart names bound) parts)
each_prop names bound [] = Unit-prop
each_prop names bound (part ∷ parts) = hlevel (props, each_prop names bound parts)

parts_prop : (lists : Lists) (table : List Thing) (from count : ℕ)
    → IsProp (AreParts lists table from count)
parts_prop lists table from count =
    hlevel (props, each_prop lists.names (length table) (parts_at lists.parts.items from count))

cell_prop : (lists : Lists) (table : List Thing) (cell : Stored)
    → IsProp (IsStored lists table cell)
cell_prop lists table (Pair first second) = hlevel props
cell_prop lists table (Xml tag attributes content) =
    hlevel (props, atom_prop (thing_at table tag), record_prop (thing_at table attributes))
cell_prop lists table (Short n) = hlevel props
cell_prop lists table (Wide at) = hlevel props
cell_prop lists table (Letter c) = hlevel props
cell_prop lists table (Atom name) = hlevel props
cell_prop lists table (Record from count) =
    ×_prop (parts_prop lists table from count) (rise_prop None (fields_at lists table from count))
cell_prop lists table (Closure function from count) = parts_prop lists table from count

pub stored_prop : (lists : Lists) (table : List Thing) (cells : List Stored)
    → IsProp (AreStored lists table cells)
stored_prop lists table [] = Unit-prop
stored_prop lists table (cell ∷ cells) =
    ×_prop (cell_prop lists table cell)
    (stored_prop lists (table ++ thing_by lists table cell ∷ []) cells)

with_prop : (test : Stored → Bool) (cells : List Stored) (found : Option ValueId)
    → IsProp (IsNoneOrWith test cells found)
with_prop test cells None = Unit-prop
with_prop test cells (Some id) = hlevel props

each_with_prop : (test : ℕ → Stored → Bool) (cells : List Stored) (ids : List (Option ValueId))
    → IsProp (EachIsWith test cells ids)
each_with_prop test cells ids =
    Π_prop (λ number. with_prop (test number) cells (slot_at ids number))

pub shared_prop : (lists : Lists) (cells : List Stored) (shared : Shared)
    → IsProp (AreShared lists cells shared)
shared_prop lists cells shared = hlevel (
  each_with_prop is_letter cells shared.letters,
  each_with_prop is_atom cells shared.atoms,
  with_prop (is_nil lists.names) cells shared.nil,
  with_prop has_no_fields cells shared.no_fields,
)
