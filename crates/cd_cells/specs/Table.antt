-- The values of a table, and its names.
use Rattle.std.specs.Prelude.{◌≡◌, ◌<◌, ℕ, List, [], ◌++◌, length}
use Rattle.cd_syntax.specs.Name.{Name}
use Rattle.cd_model.specs.Thing.{Thing}
use Rattle.cd_cells.specs.declared.values.Values.{Values}
use Rattle.cd_cells.specs.Cells.{thing_at, things_from}

-- the values by their numbers
abbrev pub table : Values → List Thing
table values = things_from values.lists [] values.cells.items

-- the names by their numbers
abbrev pub names : Values → List Name
names values = values.lists.names

-- the value with this number is this one
pub record IsAt (table : List Thing) (number : ℕ) (value : Thing) : Type 0 where
  pub within : number < length table
  pub is : thing_at table number ≡ value

-- more values and names stand after those of old, which stay
pub record Grows (old new : Values) : Type 0 where
  pub things : (more : List Thing) × (table new ≡ table old ++ more)
  pub labels : (more : List Name) × (names new ≡ names old ++ more)
