-- Rows of fields that have answered, by their numbers.
use Rattle.std.specs.Prelude.{ℕ, suc, ◌≤◌, List, [], ◌∷◌, ◌++◌, slice_index_or}
use Rattle.cd_asking.specs.declared.row.Answered.{Answered}
use Rattle.cd_asking.specs.declared.row.Longer.{Longer}
use Rattle.cd_asking.specs.declared.row.RowId.{RowId}

-- the row of a number: those of a list have the numbers from 1 on, and any other number stands for
-- the row without fields
abbrev pub row_at : List (List Answered) → RowId → List Answered
row_at rows id = slice_index_or ([] ∷ rows) id.0 []

-- a row and a field after it
abbrev pub longer_row : List (List Answered) → Longer → List Answered
longer_row rows longer = row_at rows longer.row ++ longer.field ∷ []

-- the rows after some more, each over the rows before it
abbrev pub rows_from : List (List Answered) → List Longer → List (List Answered)
rows_from rows [] = rows
rows_from rows (longer ∷ more) = rows_from (rows ++ longer_row rows longer ∷ []) more

-- each is longer than a row that stands before it, where so many stand before the first
abbrev pub AreLonger : (before : ℕ) → List Longer → Type 0
AreLonger before [] = Unit {0}
AreLonger before (longer ∷ more) = (longer.row.0 ≤ before) × AreLonger (suc before) more
