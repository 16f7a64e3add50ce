use Rattle.std.proofs.Common.{◌≡◌, ◌++◌, drop}
use Rattle.cd_kernel.specs.Inner.Building.{places_of}
use Rattle.cd_moves.specs.Inner.Rows.{plain_rows}
use Rattle.cd_kernel.proofs.rows.places.Given as goal

-- those that were gone over, and those that are left
abbrev pub invariant-loop-row : goal.invariant-loop-row
invariant-loop-row l =
    l.places.items ++ places_of l.group l.at (plain_rows (drop l.row-index l.rows))
    ≡ places_of l.group l.before (plain_rows l.rows)
