-- Values of a table by their numbers, and the items of a sequence before an end.
use Rattle.std.specs.Prelude.{◌≡◌, ◌<◌, ℕ, Bool, List, length, map, Option, Some, None}
use Rattle.std.specs.Prelude.{if◌then◌else◌}
use Rattle.cd_model.specs.AllOf.{AllOf}
use Rattle.cd_model.specs.Thing.{Thing}
use Rattle.cd_matching.specs.Sequences.{items}
use Rattle.cd_meaning.specs.Sequences.{followed_by}
use Rattle.cd_cells.specs.declared.cell.ValueId.{ValueId}
use Rattle.cd_cells.specs.Cells.{thing_at}
use Rattle.cd_cells.specs.Table.{IsAt}
use Rattle.cd_operations.specs.Along.{items_along}

-- whether a thing is a sequence
abbrev pub IsAnswer : Thing → Bool → Type 0
IsAnswer v is = items v ≡ (if is then Some (items_along v) else None)

abbrev pub things_of : List Thing → List ValueId → List Thing
things_of table ids = map (λ id. thing_at table id.0) ids

abbrev pub AreWithin : (bound : ℕ) → List ValueId → Type 0
AreWithin bound ids = AllOf (λ id. id.0 < bound) ids

-- these are the items along a value, and it is a sequence or not
pub record Collects (table : List Thing) (v : Thing) (ids : List ValueId) (is : Bool) : Type 0 where
  pub within : AreWithin (length table) ids
  pub are : things_of table ids ≡ items_along v
  pub answer : IsAnswer v is

-- the items of a sequence stand before an end, and None of another value
abbrev pub Prepends : (old : List Thing) (all end : ℕ) (new : List Thing) → Option ValueId → Type 0
Prepends old all end new None = items (thing_at old all) ≡ None
Prepends old all end new (Some id) = (ds : List Thing) × (items (thing_at old all) ≡ Some ds)
    × IsAt new id.0 (followed_by ds (thing_at old end))
