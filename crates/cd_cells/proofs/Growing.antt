-- What stands in a table, or in a list beside it, stands there when it has grown.
use Rattle.std.proofs.Common.{◌≡◌, ℕ, zero, suc, ◌+◌, ◌<◌, ◌≤◌, pos, List, [], ◌∷◌, ◌++◌, None, length, get_or, take, drop, refl, ap}
use Rattle.std.proofs.Common.{sym, ◌∙◌, subst, append-nil, length-append, arith, true≢false}
use Rattle.std.proofs.lemmas.List.{drop-append-le, take-append-le, length-drop, get_or_append_left}
use Rattle.cd_syntax.specs.Name.{Name, IsLabel}
use Rattle.cd_syntax.specs.Integer.{IsInteger}
use Rattle.cd_model.specs.AllOf.{AllOf}
use Rattle.cd_model.specs.Thing as thing
use Rattle.cd_model.specs.Thing.{Thing, Fields, IsAtom, IsRecord, LabelsRise}
use Rattle.cd_cells.specs.declared.cell.Part.{Part}
use Rattle.cd_cells.specs.declared.cell.Stored.{Stored}
use Rattle.cd_cells.specs.declared.cell.Stored.TheVariants.{Pair, Xml, Short, Wide, Letter, Atom, Record, Closure}
use Rattle.cd_cells.specs.declared.lists.Lists.{Lists}
use Rattle.cd_cells.specs.Cells.{name_at, fields_of, IsPart, parts_at, fields_at, thing_by, AreParts, IsStored}
use Rattle.cd_cells.specs.Inner.Growing.{ListsGrow}

-- more may stand after what was there
abbrev pub Grows : {X : Type 0} (old new : List X) → Type 0
Grows {X} old new = (more : List X) × (new ≡ old ++ more)

pub grows_not : {X : Type 0} (all : List X) → Grows all all
grows_not all = ([], sym (append-nil all))

pub stays : {X : Type 0} (old new : List X) (default : X) → Grows old new → (index : ℕ) → index < length old
    → get_or new index default ≡ get_or old index default
stays old new default grows index is =
    ap (λ all. get_or all index default) grows.1 ∙ get_or_append_left old grows.0 default index is

pub still_within : {X : Type 0} (old new : List X) → Grows old new → (index : ℕ) → index < length old → index < length new
still_within old new grows index is =
    let longer : length new ≡ length (old ++ grows.0) = ap length grows.1 in
    omega (arith, length-append old grows.0)

-- a label has a number of the list
label_within : (names : List Name) (number : ℕ) → IsLabel (name_at names number) → number < length names
label_within [] zero is = absurd (true≢false (sym is.0))
label_within [] (suc number) is = absurd (true≢false (sym is.0))
label_within (name ∷ names) zero is = omega arith
label_within (name ∷ names) (suc number) is = omega (arith, label_within names number is)

pub label_stays : (old new : List Name) → Grows old new → (number : ℕ) → IsLabel (name_at old number)
    → name_at new number ≡ name_at old number
label_stays old new grows number is = stays old new [] grows number (label_within old number is)

-- a table after another one, and lists after others
module _ (old new : Lists) (grow : ListsGrow old new) (table after : List Thing) (grows : Grows table after) where
  fields_stay : (parts : List Part) → AllOf (IsPart old.names (length table)) parts
      → fields_of new.names after parts ≡ fields_of old.names table parts
  fields_stay [] are = refl
  fields_stay (part ∷ parts) are = cc (
    label_stays old.names new.names grow.names part.label are.0.0,
    stays table after (thing.Atom []) grows part.value are.0.1,
    fields_stay parts are.1,
  )

  parts_are : (parts : List Part) → AllOf (IsPart old.names (length table)) parts → AllOf (IsPart new.names (length after)) parts
  parts_are [] are = tt
  parts_are (part ∷ parts) are = (
    (
      subst IsLabel (sym (label_stays old.names new.names grow.names part.label are.0.0)) are.0.0,
      still_within table after grows part.value are.0.1,
    ),
    parts_are parts are.1,
  )

  range_stays : (from count : ℕ) → from + count ≤ length old.parts.items
      → parts_at new.parts.items from count ≡ parts_at old.parts.items from count
  range_stays from count within =
      ap (λ parts. parts_at parts from count) grow.parts.1
      ∙ ap (take count) (drop-append-le from old.parts.items grow.parts.0 (omega (arith, within)))
      ∙ take-append-le count (drop from old.parts.items) grow.parts.0
      (omega (arith, within, length-drop from old.parts.items))

  fields_at_stay : (from count : ℕ) → AreParts old table from count
      → fields_at new after from count ≡ fields_at old table from count
  fields_at_stay from count are =
      ap (fields_of new.names after) (range_stays from count are.0)
      ∙ fields_stay (parts_at old.parts.items from count) are.1

  are_parts : (from count : ℕ) → AreParts old table from count → AreParts new after from count
  are_parts from count are =
      let longer : length new.parts.items ≡ length (old.parts.items ++ grow.parts.0) = ap length grow.parts.1 in (
        omega (arith, are.0, length-append old.parts.items grow.parts.0),
        subst (AllOf (IsPart new.names (length after))) (sym (range_stays from count are.0))
            (parts_are (parts_at old.parts.items from count) are.1),
      )

  pub thing_stays : (cell : Stored) → IsStored old table cell → thing_by new after cell ≡ thing_by old table cell
  thing_stays (Pair first second) is = cc (
    stays table after (thing.Atom []) grows first is.0,
    stays table after (thing.Atom []) grows second is.1,
  )
  thing_stays (Xml tag attributes content) is = cc (
    stays table after (thing.Atom []) grows tag is.0,
    stays table after (thing.Atom []) grows attributes is.1,
    stays table after (thing.Atom []) grows content is.2,
  )
  thing_stays (Short n) is = refl
  thing_stays (Wide at) is = ap thing.Integer (stays old.wide.items new.wide.items (pos 0) grow.wide at is.0)
  thing_stays (Letter c) is = refl
  thing_stays (Atom name) is = ap thing.Atom (label_stays old.names new.names grow.names name is)
  thing_stays (Record from count) is = ap thing.Record (fields_at_stay from count is.0)
  thing_stays (Closure function from count) is = ap (thing.Closure function) (fields_at_stay from count is)

  pub still_stored : (cell : Stored) → IsStored old table cell → IsStored new after cell
  still_stored (Pair first second) is =
      (still_within table after grows first is.0, still_within table after grows second is.1)
  still_stored (Xml tag attributes content) is = (
    still_within table after grows tag is.0,
    still_within table after grows attributes is.1,
    still_within table after grows content is.2,
    subst IsAtom (sym (stays table after (thing.Atom []) grows tag is.0)) is.3,
    subst IsRecord (sym (stays table after (thing.Atom []) grows attributes is.1)) is.4,
  )
  still_stored (Short n) is = is
  still_stored (Wide at) is = (
    still_within old.wide.items new.wide.items grow.wide at is.0,
    subst IsInteger (sym (stays old.wide.items new.wide.items (pos 0) grow.wide at is.0)) is.1,
  )
  still_stored (Letter c) is = is
  still_stored (Atom name) is = subst IsLabel (sym (label_stays old.names new.names grow.names name is)) is
  still_stored (Record from count) is =
      (are_parts from count is.0, subst (LabelsRise None) (sym (fields_at_stay from count is.0)) is.1)
  still_stored (Closure function from count) is = are_parts from count is
