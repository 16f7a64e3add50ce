use Rattle.std.proofs.Common.{◌≡◌, drop, map}
use Rattle.cd_needs.specs.RecordTypes.{plain_cell, plain_row}
use Rattle.cd_records.specs.Inner.Rows.{has_cell}
use Rattle.cd_records.proofs.rows.has_cell.Given as goal

-- it has one if it has one of those that are left
abbrev pub invariant-loop-name : goal.invariant-loop-name
invariant-loop-name l =
    has_cell (map (λ field. (field.0, plain_cell field.1)) (drop l.name-index l.row.fields.items))
    l.label
    ≡ has_cell (plain_row l.row).cells l.label
