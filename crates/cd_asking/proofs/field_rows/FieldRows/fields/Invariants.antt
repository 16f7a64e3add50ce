use Rattle.std.proofs.Common.{◌≡◌, ◌++◌, reverse}
use Rattle.cd_asking.specs.Inner.Rows.{row_at}
use Rattle.cd_asking.proofs.field_rows.FieldRows.fields.Given as goal

-- a row, and the fields after it
abbrev pub invariant-loop-longer : goal.invariant-loop-longer
invariant-loop-longer l = row_at l.self l.row ++ reverse l.fields.items ≡ row_at l.self l.fn.row

abbrev pub decreases-loop-longer : goal.decreases-loop-longer
decreases-loop-longer l = l.row.0
