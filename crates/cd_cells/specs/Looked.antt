-- What a look shows of a value.
use Rattle.std.specs.Prelude.{ℕ, ◌<◌, List}
use Rattle.cd_syntax.specs.Name.{Name}
use Rattle.cd_model.specs.AllOf.{AllOf}
use Rattle.cd_model.specs.Thing as thing
use Rattle.cd_model.specs.Thing.{Thing}
use Rattle.cd_cells.specs.declared.cell.Look.{Look}
use Rattle.cd_cells.specs.declared.cell.Look.TheVariants.{Int, Char, Atom, Pair, Xml, Record}
use Rattle.cd_cells.specs.declared.cell.Look.TheVariants.{Closure}
use Rattle.cd_cells.specs.Cells.{thing_at, name_at, fields_of, IsPart}

-- the value, with its names and its parts by their numbers
abbrev pub looked : List Name → List Thing → Look → Thing
looked names table (Int n) = thing.Integer n
looked names table (Char c) = thing.Character c
looked names table (Atom name) = thing.Atom (name_at names name)
looked names table (Pair first second) =
    thing.Pair (thing_at table first.0) (thing_at table second.0)
looked names table (Xml tag attributes content) =
    thing.Xml (thing_at table tag.0) (thing_at table attributes.0) (thing_at table content.0)
looked names table (Record parts) = thing.Record (fields_of names table parts.now)
looked names table (Closure function parts) =
    thing.Closure function (fields_of names table parts.now)

-- the parts of the value have numbers below this one, and its fields have labels
abbrev pub ArePartsBelow : List Name → (bound : ℕ) → Look → Type 0
ArePartsBelow names bound (Pair first second) = (first.0 < bound) × (second.0 < bound)
ArePartsBelow names bound (Xml tag attributes content) =
    (tag.0 < bound) × (attributes.0 < bound) × (content.0 < bound)
ArePartsBelow names bound (Record parts) = AllOf (IsPart names bound) parts.now
ArePartsBelow names bound (Closure function parts) = AllOf (IsPart names bound) parts.now
ArePartsBelow names bound _ = Unit {0}
