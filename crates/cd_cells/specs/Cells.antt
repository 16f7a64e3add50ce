-- What the cells of a table stand for, and which cells a table may have.
use Rattle.std.specs.Prelude.{◌≡◌, ℕ, pos, ◌<◌, ◌≤◌, ◌+◌, List, [], ◌∷◌, ◌++◌, None, length}
use Rattle.std.specs.Prelude.{take, drop, slice_index_or}
use Rattle.std.specs.Char.{IsScalar}
use Rattle.cd_syntax.specs.Integer.{IsInteger}
use Rattle.cd_syntax.specs.Name.{Name, IsLabel}
use Rattle.cd_model.specs.AllOf.{AllOf}
use Rattle.cd_model.specs.Thing as thing
use Rattle.cd_model.specs.Thing.{Thing, Fields, NoField, Field, IsAtom, IsRecord, LabelsRise}
use Rattle.cd_cells.specs.declared.cell.Part.{Part}
use Rattle.cd_cells.specs.declared.cell.Stored.{Stored}
use Rattle.cd_cells.specs.declared.cell.Stored.TheVariants.{Pair, Xml, Short, Wide, Letter, Atom}
use Rattle.cd_cells.specs.declared.cell.Stored.TheVariants.{Record, Closure}
use Rattle.cd_cells.specs.declared.lists.Lists.{Lists}

-- the value of a number; a number that names none stands for an atom without a name, which is no
-- value
abbrev pub thing_at : List Thing → ℕ → Thing
thing_at table number = slice_index_or table number (thing.Atom [])

-- the name of a number; a number that names none stands for the empty name, which is no label
abbrev pub name_at : List Name → ℕ → Name
name_at names number = slice_index_or names number []

-- no name has two numbers
abbrev pub HasEachOnce : List Name → Type 0
HasEachOnce names = (first second : ℕ) → first < length names → second < length names
    → name_at names first ≡ name_at names second → first ≡ second

-- labels and values by their numbers
abbrev pub fields_of : List Name → List Thing → List Part → Fields
fields_of names table [] = NoField
fields_of names table (part ∷ parts) =
    Field (name_at names part.label) (thing_at table part.value) (fields_of names table parts)

-- the field has a label, and a value whose number is below this one
abbrev pub IsPart : List Name → (bound : ℕ) → Part → Type 0
IsPart names bound part = IsLabel (name_at names part.label) × (part.value < bound)

-- the fields that begin here and are so many
abbrev pub parts_at : List Part → (from count : ℕ) → List Part
parts_at parts from count = take count (drop from parts)

-- the fields of a record or a closure
abbrev pub fields_at : Lists → List Thing → (from count : ℕ) → Fields
fields_at lists table from count =
    fields_of lists.names table (parts_at lists.parts.items from count)

-- a cell as a value, its parts taken from the table
abbrev pub thing_by : Lists → List Thing → Stored → Thing
thing_by lists table (Pair first second) =
    thing.Pair (thing_at table first) (thing_at table second)
thing_by lists table (Xml tag attributes content) =
    thing.Xml (thing_at table tag) (thing_at table attributes) (thing_at table content)
thing_by lists table (Short n) = thing.Integer n
thing_by lists table (Wide at) = thing.Integer (slice_index_or lists.wide.items at (pos 0))
thing_by lists table (Letter c) = thing.Character c
thing_by lists table (Atom name) = thing.Atom (name_at lists.names name)
thing_by lists table (Record from count) = thing.Record (fields_at lists table from count)
thing_by lists table (Closure function from count) =
    thing.Closure function (fields_at lists table from count)

-- the range is one of the list of fields, and each of its fields is one of the table
abbrev pub AreParts : Lists → List Thing → (from count : ℕ) → Type 0
AreParts lists table from count = (from + count ≤ length lists.parts.items)
    × AllOf (IsPart lists.names (length table)) (parts_at lists.parts.items from count)

-- A cell is one of the table where its parts are in the table and its names are labels, a tag is an
-- atom, attributes are a record, and the labels of a record rise
abbrev pub IsStored : Lists → List Thing → Stored → Type 0
IsStored lists table (Pair first second) = (first < length table) × (second < length table)
IsStored lists table (Xml tag attributes content) =
    (tag < length table) × (attributes < length table) × (content < length table)
    × IsAtom (thing_at table tag) × IsRecord (thing_at table attributes)
IsStored lists table (Short n) = IsInteger n
IsStored lists table (Wide at) =
    (at < length lists.wide.items) × IsInteger (slice_index_or lists.wide.items at (pos 0))
IsStored lists table (Letter c) = IsScalar c
IsStored lists table (Atom name) = IsLabel (name_at lists.names name)
IsStored lists table (Record from count) =
    AreParts lists table from count × LabelsRise None (fields_at lists table from count)
IsStored lists table (Closure function from count) = AreParts lists table from count

-- each cell is one of the table of those before it
abbrev pub AreStored : Lists → List Thing → List Stored → Type 0
AreStored lists table [] = Unit {0}
AreStored lists table (cell ∷ cells) =
    IsStored lists table cell × AreStored lists (table ++ thing_by lists table cell ∷ []) cells

-- the table after more cells, each over the values before it
abbrev pub things_from : Lists → List Thing → List Stored → List Thing
things_from lists table [] = table
things_from lists table (cell ∷ cells) =
    things_from lists (table ++ thing_by lists table cell ∷ []) cells
