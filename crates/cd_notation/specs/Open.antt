-- Labels, by their numbers, and fields in the order in which they were read.
use Rattle.std.specs.Prelude.{◌≡◌, ℕ, ◌==◌, Bool, false, List, [], ◌∷◌, map, reverse}
use Rattle.std.specs.List.{list_any}
use Rattle.cd_syntax.specs.Name.{Name}
use Rattle.cd_model.specs.Thing.{Thing, Fields, NoField}
use Rattle.cd_documents.specs.Machine.{with_fields}
use Rattle.cd_cells.specs.declared.cell.Part.{Part}
use Rattle.cd_cells.specs.Cells.{name_at, thing_at}

-- whether a label is one of these
abbrev pub is_label_of : ℕ → List ℕ → Bool
is_label_of label labels = list_any (λ other. label == other) labels

-- the names of the labels, and the values, of parts
abbrev pub names_of : List Name → List Part → List Name
names_of names parts = map (λ part. name_at names part.label) parts

abbrev pub values_of : List Thing → List Part → List Thing
values_of table parts = map (λ part. thing_at table part.value) parts

-- the fields that parts make, which were read in this order
abbrev pub fields_read : List Name → List Thing → List Part → Fields
fields_read names table parts =
    with_fields (reverse (names_of names parts)) (reverse (values_of table parts)) NoField

-- no label stands twice
abbrev pub LabelsDiffer : List Part → Type 0
LabelsDiffer [] = Unit {0}
LabelsDiffer (part ∷ parts) =
    (is_label_of part.label (map (λ other. other.label) parts) ≡ false) × LabelsDiffer parts
