-- A table only grows, so what its cells stand for stays, and each of its things is a value.
use Rattle.std.proofs.Common.{◌≡◌, ℕ, zero, suc, ◌+◌, ◌<◌, List, [], ◌∷◌, ◌++◌, length, get_or, refl, ap}
use Rattle.std.proofs.Common.{sym, ◌∙◌, subst, append_assoc, append-nil, arith}
use Rattle.std.specs.Prelude.{Result, Ok, Err, is_ok, if◌then◌else◌}
use Rattle.std.proofs.lemmas.List.{get_or_at, length_push}
use Rattle.cd_model.specs.AllOf.{AllOf}
use Rattle.cd_model.specs.Thing as thing
use Rattle.cd_model.specs.Thing.{Thing, IsValue, AreValues}
use Rattle.cd_cells.specs.declared.cell.Part.{Part}
use Rattle.cd_cells.specs.declared.cell.Stored.{Stored}
use Rattle.cd_cells.specs.declared.cell.Stored.TheVariants.{Pair, Xml, Short, Wide, Letter, Atom, Record, Closure}
use Rattle.cd_cells.specs.declared.lists.Lists.{Lists}
use Rattle.cd_cells.specs.Cells.{thing_at, fields_of, IsPart, parts_at, thing_by, IsStored, AreStored, things_from}
use Rattle.cd_cells.specs.Inner.Growing.{ListsGrow}
use Rattle.cd_cells.proofs.Growing.{Grows, grows_not, thing_stays, still_stored}

-- more lists beside the same cells
module _ (old new : Lists) (grow : ListsGrow old new) where
  pub same_things : (table : List Thing) (cells : List Stored) → AreStored old table cells
      → things_from new table cells ≡ things_from old table cells
  same_things table [] are = refl
  same_things table (cell ∷ cells) are =
      ap (λ one. things_from new (table ++ one ∷ []) cells) (thing_stays old new grow table table (grows_not table) cell are.0)
      ∙ same_things (table ++ thing_by old table cell ∷ []) cells are.1

  pub still_sound : (table : List Thing) (cells : List Stored) → AreStored old table cells → AreStored new table cells
  still_sound table [] are = tt
  still_sound table (cell ∷ cells) are = (
    still_stored old new grow table table (grows_not table) cell are.0,
    subst (λ one. AreStored new (table ++ one ∷ []) cells)
        (sym (thing_stays old new grow table table (grows_not table) cell are.0))
        (still_sound (table ++ thing_by old table cell ∷ []) cells are.1),
  )

lists_stay : (lists : Lists) → ListsGrow lists lists
lists_stay lists = record {
  names = grows_not lists.names;
  wide = grows_not lists.wide.items;
  parts = grows_not lists.parts.items;
}

-- the cell of each number is sound in the whole table, and over the values before it, and stands for the value there
pub record IsCellAt (lists : Lists) (table : List Thing) (cell : Stored) (index : ℕ) : Type 0 where
  pub sound : IsStored lists table cell
  pub value : thing_by lists table cell ≡ thing_at table index
  pub before : (table : List Thing) × (length table ≡ index) × IsStored lists table cell

module _ (lists : Lists) where
  pub from_append : (table : List Thing) (cells more : List Stored)
      → things_from lists table (cells ++ more) ≡ things_from lists (things_from lists table cells) more
  from_append table [] more = refl
  from_append table (cell ∷ cells) more = from_append (table ++ thing_by lists table cell ∷ []) cells more

  pub length_from : (table : List Thing) (cells : List Stored)
      → length (things_from lists table cells) ≡ length table + length cells
  length_from table [] = omega arith
  length_from table (cell ∷ cells) =
      let rest = length_from (table ++ thing_by lists table cell ∷ []) cells in
      let one = length_push table (thing_by lists table cell) in
      omega arith

  -- a table after more cells is itself and more
  grows_from : (table : List Thing) (cells : List Stored) → Grows table (things_from lists table cells)
  grows_from table [] = grows_not table
  grows_from table (cell ∷ cells) =
      let one = thing_by lists table cell in
      let rest = grows_from (table ++ one ∷ []) cells in
      (one ∷ rest.0, rest.1 ∙ append_assoc table (one ∷ []) rest.0)

  cell_at : (table : List Thing) (cells : List Stored) (index : ℕ) (default : Stored) → AreStored lists table cells
      → index < length cells → IsCellAt lists (things_from lists table cells) (get_or cells index default) (length table + index)
  cell_at table [] index default are within = absurd (omega arith)
  cell_at table (cell ∷ cells) zero default are within =
      let one = thing_by lists table cell in
      let more = grows_from (table ++ one ∷ []) cells in
      let whole : things_from lists table (cell ∷ cells) ≡ table ++ (one ∷ more.0) =
      more.1 ∙ append_assoc table (one ∷ []) more.0 in
      let at : length table ≡ length table + 0 = omega arith in
      let grows : Grows table (table ++ (one ∷ more.0)) = (one ∷ more.0, refl) in
      subst (λ after. IsCellAt lists after cell (length table + 0)) (sym whole) record {
        sound = still_stored lists lists (lists_stay lists) table (table ++ (one ∷ more.0)) grows cell are.0;
        value = thing_stays lists lists (lists_stay lists) table (table ++ (one ∷ more.0)) grows cell are.0
            ∙ sym (get_or_at table one more.0 (thing.Atom []) (length table + 0) at);
        before = (table, at, are.0);
      }
  cell_at table (cell ∷ cells) (suc index) default are within =
      let one = thing_by lists table cell in
      let rest = cell_at (table ++ one ∷ []) cells index default are.1 (omega arith) in
      let at : length (table ++ one ∷ []) + index ≡ length table + suc index = omega (arith, length_push table one) in
      subst (λ place. IsCellAt lists (things_from lists table (cell ∷ cells)) (get_or cells index default) place) at rest

  pub cell_within : (cells : List Stored) (index : ℕ) (default : Stored) → AreStored lists [] cells → index < length cells
      → IsCellAt lists (things_from lists [] cells) (get_or cells index default) index
  cell_within cells index default are within =
      let place : length {A = Thing} [] + index ≡ index = omega arith in
      subst (IsCellAt lists (things_from lists [] cells) (get_or cells index default)) place (cell_at [] cells index default are within)

  -- what is read of the cells of a table
  pub cell_read : (cells : List Stored) (index : ℕ) (cell : Stored) → AreStored lists [] cells
      → index < length (things_from lists [] cells) → cell ≡ get_or cells index cell
      → IsCellAt lists (things_from lists [] cells) cell index
  cell_read cells index cell are within is =
      subst (λ one. IsCellAt lists (things_from lists [] cells) one index) (sym is)
      (cell_within cells index cell are (omega (arith, within, length_from [] cells)))

  -- one more cell
  cells_push : (table : List Thing) (cells : List Stored) (cell : Stored) → AreStored lists table cells
      → IsStored lists (things_from lists table cells) cell → AreStored lists table (cells ++ cell ∷ [])
  cells_push table [] cell are is = (is, tt)
  cells_push table (first ∷ cells) cell are is =
      (are.0, cells_push (table ++ thing_by lists table first ∷ []) cells cell are.1 is)

  -- also where memory runs out
  pub cells_pushed : {T E : Type 0} (done : Result T E) (cells after : List Stored) (cell : Stored) → AreStored lists [] cells
      → IsStored lists (things_from lists [] cells) cell
      → after ≡ (if is_ok done then cells ++ cell ∷ [] else cells) → AreStored lists [] after
  cells_pushed (Ok value) cells after cell are is same =
      subst (AreStored lists []) (sym same) (cells_push [] cells cell are is)
  cells_pushed (Err error) cells after cell are is same = subst (AreStored lists []) (sym same) are

  pub things_pushed : {T E : Type 0} (done : Result T E) (cells after : List Stored) (cell : Stored)
      → after ≡ (if is_ok done then cells ++ cell ∷ [] else cells)
      → Grows (things_from lists [] cells) (things_from lists [] after)
  things_pushed (Ok value) cells after cell same = (
    thing_by lists (things_from lists [] cells) cell ∷ [],
    ap (things_from lists []) same ∙ from_append [] cells (cell ∷ []),
  )
  things_pushed (Err error) cells after cell same =
      ([], ap (things_from lists []) same ∙ sym (append-nil (things_from lists [] cells)))

-- the cells of a table stand for values
value_is : (table : List Thing) (number : ℕ) → AllOf IsValue table → number < length table → IsValue (thing_at table number)
value_is [] number are within = absurd (omega arith)
value_is (first ∷ rest) zero are within = are.0
value_is (first ∷ rest) (suc number) are within = value_is rest number are.1 (omega arith)

module _ (lists : Lists) (table : List Thing) (are : AllOf IsValue table) where
  fields_are : (parts : List Part) → AllOf (IsPart lists.names (length table)) parts → AreValues (fields_of lists.names table parts)
  fields_are [] parts = tt
  fields_are (part ∷ rest) parts = (parts.0.0, value_is table part.value are parts.0.1, fields_are rest parts.1)

  thing_is : (cell : Stored) → IsStored lists table cell → IsValue (thing_by lists table cell)
  thing_is (Pair first second) is = (value_is table first are is.0, value_is table second are is.1)
  thing_is (Xml tag attributes content) is =
      (is.3, is.4, value_is table tag are is.0, value_is table attributes are is.1, value_is table content are is.2)
  thing_is (Short n) is = is
  thing_is (Wide at) is = is.1
  thing_is (Letter c) is = is
  thing_is (Atom name) is = is
  thing_is (Record from count) is = (is.1, fields_are (parts_at lists.parts.items from count) is.0.1)
  thing_is (Closure function from count) is = fields_are (parts_at lists.parts.items from count) is.1

all_push : (all : List Thing) (one : Thing) → AllOf IsValue all → IsValue one → AllOf IsValue (all ++ one ∷ [])
all_push [] one are is = (is, tt)
all_push (first ∷ rest) one are is = (are.0, all_push rest one are.1 is)

pub things_are : (lists : Lists) (table : List Thing) (cells : List Stored) → AllOf IsValue table → AreStored lists table cells
    → AllOf IsValue (things_from lists table cells)
things_are lists table [] are sound = are
things_are lists table (cell ∷ cells) are sound =
    things_are lists (table ++ thing_by lists table cell ∷ []) cells
    (all_push table (thing_by lists table cell) are (thing_is lists table are cell sound.0)) sound.1
