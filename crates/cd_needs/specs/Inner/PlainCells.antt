-- The cells of a row of the code as plain data.
use Rattle.std.specs.Prelude.{List, map}
use Rattle.cd_syntax.specs.Name.{Name}
use Rattle.cd_rules.specs.Clauses.{RecordType}
use Rattle.cd_rules.specs.Rows.{Cell, Reasons, cell_at}
use Rattle.cd_needs.specs.RecordTypes.{plain_cell}
use Rattle.cd_needs.specs.declared.row.FieldCell.{FieldCell}

abbrev pub plain_cells : List (Name × FieldCell) → List (Name × Cell)
plain_cells cells = map (λ field. (field.0, plain_cell field.1)) cells

-- the cell at each of these labels
abbrev pub cells_at : (wanted : List RecordType) → Reasons → List Name → List (Name × Cell)
cells_at wanted reasons labels = map (λ label. (label, cell_at wanted reasons label)) labels
