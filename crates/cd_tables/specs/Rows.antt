-- Tables as lists of rows, each a word with its value.
use Rattle.std.specs.Prelude.{ℕ, List, [], ◌∷◌, Option, Some, None, map, bytes_eq}
use Rattle.std.specs.Prelude.{if◌then◌else◌}
use Rattle.cd_syntax.specs.Name.{Name}
use Rattle.cd_tables.specs.Spelling.{spelled}
use Rattle.cd_tables.specs.declared.row.TableRow.{TableRow}

module _ {V : Type 0} where
  -- the value of the first row with this name; rows and name are both given by characters, or both
  -- by bytes
  unfoldable pub row_of : List (Name × V) → Name → Option V
  row_of [] name = None
  row_of (row ∷ rows) name = if bytes_eq name row.0 then Some row.1 else row_of rows name

  -- the fields in which rows have their spellings
  abbrev pub fields_of : List (TableRow V) → List (List ℕ)
  fields_of rows = map (λ row. row.spelling) rows

  -- the rows, each with the bytes that it spells
  abbrev pub rows_of : List (TableRow V) → List (List ℕ × V)
  rows_of rows = map (λ row. (spelled row.spelling, row.value)) rows
