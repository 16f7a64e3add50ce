use Rattle.std.proofs.Common.{◌≡◌, drop, option_map}
use Rattle.cd_tables.specs.Spelling.{rises, rises_after}
use Rattle.cd_tables.specs.Rows.{fields_of}
use Rattle.cd_tables.proofs.table.rising.Given as goal

-- what is left rises after the last row, as all rows do
abbrev pub invariant-loop-row : goal.invariant-loop-row
invariant-loop-row g l =
    rises_after (option_map (λ one. one.now) l.before) (fields_of (drop l.row-index l.rows))
    ≡ rises (fields_of l.fn.rows)
