-- Rows of the code as plain data.
use Rattle.std.specs.Prelude.{map}
use Rattle.cd_rules.specs.Rows.{Cell, Row}
use Rattle.cd_needs.specs.declared.row.FieldCell.{FieldCell}
use Rattle.cd_needs.specs.declared.row.Row.{Row as CodeRow}

abbrev pub plain_cell : FieldCell → Cell
plain_cell cell = record { absent = cell.absent; value = cell.value }

abbrev pub plain_row : CodeRow → Row
plain_row row = record {
  cells = map (λ field. (field.0, plain_cell field.1)) row.fields.items;
  every = row.every;
  some = row.some;
}
