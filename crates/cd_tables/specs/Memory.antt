-- How much memory rows take.
use Rattle.std.specs.Prelude.{ℕ}
use Rattle.std.specs.Mem.{FitsInMemory}
use Rattle.std.specs.Borrow.{RattleType, Array}
use Rattle.cd_tables.specs.contracts.row.TableRow.{the_row}

-- so many rows take fewer than 2 ^ 63 bytes
abbrev pub FitInMemory : RattleType → ℕ → Type 0
FitInMemory V count = FitsInMemory (Array (the_row V) count)
