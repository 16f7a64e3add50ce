use Rattle.std.proofs.Common.{◌≡◌, drop, map}
use Rattle.cd_needs.specs.RecordTypes.{plain_cell, plain_row}
use Rattle.cd_rows.specs.RecordRows.{cell_in, asked_at}
use Rattle.cd_explored.proofs.records.asked_at.Given as goal

-- it is asked by the cells that are left
abbrev pub invariant-loop-name : goal.invariant-loop-name
invariant-loop-name l =
    (cell_in (map (λ field. (field.0, plain_cell field.1)) (drop l.name-index l.row.fields.items))
    l.row.every l.label).value
    ≡ asked_at (plain_row l.row) l.label
