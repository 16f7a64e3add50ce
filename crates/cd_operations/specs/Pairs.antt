-- Pairs of a table, and what ends a sequence.
use Rattle.std.specs.Prelude.{◌≡◌, ◌<◌, ℕ, Bool, false, List, bytes_eq, codes}
use Rattle.cd_model.specs.Thing.{Thing, Atom, Pair}
use Rattle.cd_cells.specs.declared.cell.ValueId.{ValueId}
use Rattle.cd_cells.specs.Cells.{thing_at}

-- the value with this number is the pair of these two, whose numbers are lower
pub record IsPairAt (table : List Thing) (number : ℕ) (parts : ValueId × ValueId) : Type 0 where
  pub first : parts.0.0 < number
  pub rest : parts.1.0 < number
  pub is : thing_at table number ≡ Pair (thing_at table parts.0.0) (thing_at table parts.1.0)

-- the thing is the empty sequence
abbrev pub is_empty : Thing → Bool
is_empty (Atom name) = bytes_eq name (codes "nil")
is_empty _ = false
