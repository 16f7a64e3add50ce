-- The clauses of records of a question, as rows and types that are refused.
use Rattle.std.specs.Prelude.{List, [], ◌∷◌, ◌++◌, map}
use Rattle.cd_syntax.specs.Name.{Name}
use Rattle.cd_graph.specs.declared.fields.Fields.{Fields}
use Rattle.cd_needs.specs.RecordType.{record_type}
use Rattle.cd_needs.specs.RecordTypes.{plain_cell, plain_row}
use Rattle.cd_needs.specs.declared.row.FieldCell.{FieldCell}
use Rattle.cd_rules.specs.Clauses.{Clause, RecordType, Records}
use Rattle.cd_rules.specs.Rows.{Cell}
use Rattle.cd_rows.specs.declared.row_clause.RowClause.{RowClause as CodeClause}
use Rattle.cd_rows.specs.Inner.Refining.{RowClause, first_row}

-- of a clause of records
abbrev pub row_clause : (wanted refused : List RecordType) → RowClause
row_clause wanted refused = record { row = first_row wanted refused; refused = refused }

abbrev pub row_clause_of : Clause → List RowClause
row_clause_of (Records wanted refused) = row_clause wanted refused ∷ []
row_clause_of clause = []

-- and of each of these
abbrev pub row_clauses : List Clause → List RowClause
row_clauses [] = []
row_clauses (clause ∷ clauses) = row_clause_of clause ++ row_clauses clauses

-- those of the code as plain data
abbrev pub plain_types : List Fields → List RecordType
plain_types types = map record_type types

abbrev pub plain_row_clause : CodeClause → RowClause
plain_row_clause clause = record {
  row = plain_row clause.row;
  refused = plain_types clause.refused.items;
}

abbrev pub plain_labelled : Name × FieldCell → Name × Cell
plain_labelled field = (field.0, plain_cell field.1)
