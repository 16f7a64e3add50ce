-- Ways and rows of words, within those of the words that begin with them.
use Rattle.std.specs.Prelude.{◌≡◌, true, List, [], ◌∷◌}
use Rattle.cd_syntax.specs.Name.{Name}
use Rattle.cd_rules.specs.Family.{AreAmong, IsSubsumedBy}
use Rattle.cd_rules.specs.Needs.{Way}
use Rattle.cd_rules.specs.Rows.{Cell, Row}

-- each question of the way subsumes the one at its place in the longer way
abbrev pub IsWayWithin : (way longer : Way) → Type 0
IsWayWithin [] longer = Unit {0}
IsWayWithin (question ∷ way) [] = ⊥
IsWayWithin (question ∷ way) (other ∷ longer) =
    IsSubsumedBy other question × IsWayWithin way longer

-- the longer cell's question is subsumed; and where the longer cell lets the label be absent, so
-- does this one
abbrev pub IsCellWithin : (cell longer : Cell) → Type 0
IsCellWithin cell longer =
    IsSubsumedBy longer.value cell.value × (longer.absent ≡ true → cell.absent ≡ true)

-- the cells of the same labels, likewise
abbrev pub AreCellsWithin : (cells longer : List (Name × Cell)) → Type 0
AreCellsWithin [] [] = Unit {0}
AreCellsWithin (cell ∷ cells) (other ∷ longer) =
    (cell.0 ≡ other.0) × IsCellWithin cell.1 other.1 × AreCellsWithin cells longer
AreCellsWithin cells longer = ⊥

-- a row that asks nothing that the longer row does not ask
pub record IsRowWithin (row longer : Row) : Type 0 where
  pub cells : AreCellsWithin row.cells longer.cells
  pub every : row.every ≡ longer.every
  pub some : AreAmong row.some longer.some
