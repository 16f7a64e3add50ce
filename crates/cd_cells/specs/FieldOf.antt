-- Fields by their labels.
use Rattle.std.specs.Prelude.{Bool, List, bytes_eq}
use Rattle.cd_syntax.specs.Name.{Name}
use Rattle.cd_cells.specs.declared.cell.Part.{Part}
use Rattle.cd_cells.specs.Cells.{name_at}

-- the field is that of the label
abbrev pub is_of : List Name → (label : Name) → Part → Bool
is_of names label part = bytes_eq (name_at names part.label) label
