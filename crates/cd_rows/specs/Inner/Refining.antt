-- Rows less record types: what of a row is outside a type is in rows that have no record in common,
-- of which only those that have a record are kept.
use Rattle.std.specs.Prelude.{ℕ, Bool, true, false, ◌&&◌, not, List, [], ◌∷◌, ◌++◌, map}
use Rattle.cd_sets.specs.declared.node_id.NodeId.{NodeId}
use Rattle.cd_sets.specs.declared.question.Question.{Question}
use Rattle.cd_syntax.specs.Name.{Name}
use Rattle.cd_model.specs.AllOf.{AllOf}
use Rattle.cd_model.specs.Formula.{Field}
use Rattle.cd_rules.specs.Clauses.{RecordType}
use Rattle.cd_rules.specs.Rows.{Cell, Row, field_at, labels_of, row_of}
use Rattle.cd_rules.specs.Tasks.{present}
use Rattle.cd_rules.specs.Within.{IsTypeWithin}
use Rattle.cd_products.specs.QuestionBoxes.{within_node, without_node}
use Rattle.cd_rows.specs.RecordRows.{RowAsksNodes}

-- what of a cell is as a field says, and what is not
abbrev pub within_field : Field → Cell → Cell
within_field field cell = record {
  absent = cell.absent && field.optional;
  value = within_node field.type cell.value;
}

abbrev pub without_field : Field → Cell → Cell
without_field field cell = record {
  absent = cell.absent && not field.optional;
  value = without_node field.type cell.value;
}

-- the same at the label of the cell, by a record type
abbrev pub within_type : RecordType → Name × Cell → Name × Cell
within_type type cell = (cell.0, within_field (field_at type cell.0) cell.1)

abbrev pub without_type : RecordType → Name × Cell → Name × Cell
without_type type cell = (cell.0, without_field (field_at type cell.0) cell.1)

-- Cells less a type: outside it at the label of the first cell, or within it there and outside it
-- at the label of a later one
abbrev pub less_cells : RecordType → List (Name × Cell) → List (List (Name × Cell))
less_cells type [] = []
less_cells type (cell ∷ cells) = (without_type type cell ∷ cells)
    ∷ map (λ others. within_type type cell ∷ others) (less_cells type cells)

-- a row with other cells
abbrev pub with_cells : Row → List (Name × Cell) → Row
with_cells row cells = record { cells = cells; every = row.every; some = row.some }

-- and with a value outside a node at a label of no cell
abbrev pub with_outside : NodeId → Row → List (Name × Cell) → Row
with_outside id row cells = record {
  cells = cells;
  every = row.every;
  some = without_node id row.every ∷ row.some;
}

-- a row within a type at the label of each cell, and outside its rest at another label
abbrev pub outside_rest : RecordType → Row → Row
outside_rest type row = with_outside type.rest row (map (within_type type) row.cells)

abbrev pub less_row : RecordType → Row → List Row
less_row type row =
    map (with_cells row) (less_cells type row.cells) ++ (outside_rest type row ∷ [])

-- the first of these rows, for cells that are left, where these come before
abbrev pub less_after : RecordType → Row → (before left : List (Name × Cell)) → List Row
less_after type row before [] = []
less_after type row before (cell ∷ left) =
    with_cells row (before ++ (without_type type cell ∷ left))
    ∷ less_after type row (before ++ (within_type type cell ∷ [])) left

-- the questions of a row of which each has to have an element
abbrev pub needed : Row → List Question
needed row = present row.cells ++ row.some

-- a row that is the records of some types, and types that they are to be outside
pub record RowClause : Type 0 where
  pub row : Row
  pub refused : List RecordType

-- a clause of nodes among so many
pub record ClauseAsks (nodes : ℕ) (clause : RowClause) : Type 0 where
  pub row : RowAsksNodes nodes clause.row
  pub refused : AllOf (IsTypeWithin nodes) clause.refused

-- the row of the labels that the types of a clause name, where none of them is refused
abbrev pub first_row : (wanted refused : List RecordType) → Row
first_row wanted refused = row_of (labels_of (wanted ++ refused)) wanted []

-- where a test says whether each of some questions has an element
module _ (test : List Question → Bool) where
  abbrev pub keep_if : Bool → Row → List Row → List Row
  keep_if true row rows = row ∷ rows
  keep_if false row rows = rows

  -- the rows that have a record
  abbrev pub keep : List Row → List Row
  keep [] = []
  keep (row ∷ rows) = keep_if (test (needed row)) row (keep rows)

  -- rows less one type, and less each of these
  abbrev pub refuse : RecordType → List Row → List Row
  refuse type [] = []
  refuse type (row ∷ rows) = keep (less_row type row) ++ refuse type rows

  abbrev pub refuse_all : List RecordType → List Row → List Row
  refuse_all [] rows = rows
  refuse_all (type ∷ refused) rows = refuse_all refused (refuse type rows)

  abbrev pub rows_of_clause : RowClause → List Row
  rows_of_clause clause = refuse_all clause.refused (keep (clause.row ∷ []))

  abbrev pub rows_of_clauses : List RowClause → List Row
  rows_of_clauses [] = []
  rows_of_clauses (clause ∷ clauses) = rows_of_clause clause ++ rows_of_clauses clauses
