-- Values without parts that a table stores once, and the cells that it knows of them.
use Rattle.std.specs.Prelude.{◌≡◌, ◌<◌, ◌==◌, ℕ, pos, Bool, false, List, Option, IsTrue, IfSome}
use Rattle.std.specs.Prelude.{bytes_eq, codes, length, slice_index_or}
use Rattle.cd_syntax.specs.Name.{Name}
use Rattle.cd_cells.specs.declared.cell.ValueId.{ValueId}
use Rattle.cd_cells.specs.declared.cell.Stored.{Stored}
use Rattle.cd_cells.specs.declared.cell.Stored.TheVariants.{Short, Letter, Atom, Record}
use Rattle.cd_cells.specs.declared.lists.Lists.{Lists}
use Rattle.cd_cells.specs.declared.shared.Shared.{Shared}
use Rattle.cd_cells.specs.Cells.{name_at}
use Rattle.cd_cells.specs.Slots.{slot_at}

-- the cell is one of this character
abbrev pub is_letter : ℕ → Stored → Bool
is_letter c (Letter other) = other == c
is_letter c _ = false

-- of the atom whose name has this number
abbrev pub is_atom : ℕ → Stored → Bool
is_atom name (Atom other) = other == name
is_atom name _ = false

-- of the atom `nil`
abbrev pub is_nil : List Name → Stored → Bool
is_nil names (Atom name) = bytes_eq (name_at names name) (codes "nil")
is_nil names _ = false

-- of the record without fields
abbrev pub has_no_fields : Stored → Bool
has_no_fields (Record from count) = count == 0
has_no_fields _ = false

-- the cell with this number is this one
pub record HasCell (cells : List Stored) (number : ℕ) (cell : Stored) : Type 0 where
  pub within : number < length cells
  pub is : slice_index_or cells number (Short (pos 0)) ≡ cell

-- the cell with this number passes the test
abbrev pub IsCellWith : (Stored → Bool) → List Stored → ValueId → Type 0
IsCellWith test cells id =
    (id.0 < length cells) × IsTrue (test (slice_index_or cells id.0 (Short (pos 0))))

-- if there is a number
abbrev pub IsNoneOrWith : (Stored → Bool) → List Stored → Option ValueId → Type 0
IsNoneOrWith test cells found = IfSome found (IsCellWith test cells)

-- the cell of each number passes the test for that number
abbrev pub EachIsWith : (ℕ → Stored → Bool) → List Stored → List (Option ValueId) → Type 0
EachIsWith test cells ids = (number : ℕ) → IsNoneOrWith (test number) cells (slot_at ids number)

-- each cell that is known is one of its value
abbrev pub AreShared : Lists → List Stored → Shared → Type 0
AreShared lists cells shared = EachIsWith is_letter cells shared.letters
    × EachIsWith is_atom cells shared.atoms
    × IsNoneOrWith (is_nil lists.names) cells shared.nil
    × IsNoneOrWith has_no_fields cells shared.no_fields
