-- What a shape stands for in a table of elements.
use Rattle.std.specs.Prelude.{ℕ, ◌<◌, List, [], ◌∷◌, ◌++◌, Option, Some, None, length}
use Rattle.std.specs.Prelude.{slice_index_or}
use Rattle.cd_model.specs.AllOf.{AllOf}
use Rattle.cd_syntax.specs.Name.{Name, IsLabel}
use Rattle.cd_model.specs.Thing as thing
use Rattle.cd_model.specs.Thing.{Thing, Fields, NoField, Field, Pairs, NoPair, Maps, Fails, IsAtom}
use Rattle.cd_model.specs.Thing.{IsRecord}
use Rattle.cd_elements.specs.declared.shape.ElementId.{ElementId}
use Rattle.cd_elements.specs.declared.shape.Shape.{Shape}
use Rattle.cd_elements.specs.declared.shape.Shape.TheVariants.{Int, Char, Atom, Pair, Xml, Record}
use Rattle.cd_elements.specs.declared.shape.Shape.TheVariants.{Fun}
use Rattle.cd_elements.specs.Parts.{HasLabels}

-- the element of a number; a number that names none stands for an atom without a name, which is no
-- element
abbrev pub element_at : List Thing → ElementId → Thing
element_at table id = slice_index_or table id.0 (thing.Atom [])

abbrev pub fields_of : List Thing → List (Name × ElementId) → Fields
fields_of table [] = NoField
fields_of table (part ∷ parts) = Field part.0 (element_at table part.1) (fields_of table parts)

-- a pair maps where it has a result
abbrev pub pair_before : Thing → Option Thing → Pairs → Pairs
pair_before argument None rest = Fails argument rest
pair_before argument (Some result) rest = Maps argument result rest

abbrev pub result_at : List Thing → Option ElementId → Option Thing
result_at table None = None
result_at table (Some id) = Some (element_at table id)

abbrev pub pairs_of : List Thing → List (ElementId × Option ElementId) → Pairs
pairs_of table [] = NoPair
pairs_of table (pair ∷ pairs) =
    pair_before (element_at table pair.0) (result_at table pair.1) (pairs_of table pairs)

-- a shape as an element, its parts taken from the table
abbrev pub element_by : List Thing → Shape → Thing
element_by table (Int n) = thing.Integer n
element_by table (Char c) = thing.Character c
element_by table (Atom name) = thing.Atom name
element_by table (Pair first second) = thing.Pair (element_at table first) (element_at table second)
element_by table (Xml tag attributes content) =
    thing.Xml (element_at table tag) (element_at table attributes) (element_at table content)
element_by table (Record parts) = thing.Record (fields_of table parts)
element_by table (Fun pairs) = thing.Function (pairs_of table pairs)

-- the number names an element of the table
abbrev pub Names : List Thing → ElementId → Type 0
Names table id = id.0 < length table

abbrev pub IsResult : List Thing → Option ElementId → Type 0
IsResult table None = Unit {0}
IsResult table (Some id) = Names table id

-- A shape is one of the table where its parts are in the table, its names are atoms or rising
-- labels, a tag is an atom and attributes are a record
abbrev pub IsShape : List Thing → Shape → Type 0
IsShape table (Int n) = Unit {0}
IsShape table (Char c) = Unit {0}
IsShape table (Atom name) = IsLabel name
IsShape table (Pair first second) = Names table first × Names table second
IsShape table (Xml tag attributes content) =
    Names table tag × Names table attributes × Names table content × IsAtom (element_at table tag)
    × IsRecord (element_at table attributes)
IsShape table (Record parts) = HasLabels parts × AllOf (λ part. Names table part.1) parts
IsShape table (Fun pairs) = AllOf (λ pair. Names table pair.0 × IsResult table pair.1) pairs

-- the parts of a shape have numbers below this one
abbrev pub IsResultBelow : ℕ → Option ElementId → Type 0
IsResultBelow bound None = Unit {0}
IsResultBelow bound (Some id) = id.0 < bound

abbrev pub ArePartsBelow : ℕ → Shape → Type 0
ArePartsBelow bound (Pair first second) = (first.0 < bound) × (second.0 < bound)
ArePartsBelow bound (Xml tag attributes content) =
    (tag.0 < bound) × (attributes.0 < bound) × (content.0 < bound)
ArePartsBelow bound (Record parts) = AllOf (λ part. part.1.0 < bound) parts
ArePartsBelow bound (Fun pairs) =
    AllOf (λ pair. (pair.0.0 < bound) × IsResultBelow bound pair.1) pairs
ArePartsBelow bound _ = Unit {0}

-- the table after more shapes, each over the elements before it
abbrev pub elements_from : List Thing → List Shape → List Thing
elements_from table [] = table
elements_from table (shape ∷ shapes) = elements_from (table ++ element_by table shape ∷ []) shapes
