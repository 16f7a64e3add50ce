-- A record with an element of each question of a row, at the labels of its fields, is made for the row.
use Rattle.std.proofs.Common.{◌≡◌, ℕ, suc, ◌≤◌, Bool, true, false, List, [], ◌∷◌, map, bytes_eq, if◌then◌else◌}
use Rattle.std.proofs.Common.{Option, Some, None, ◌⊎◌, inl, inr, refl, sym, ◌∙◌, subst, arith}
use Rattle.std.proofs.lemmas.Bool.{cases_Bool, true≢false}
use Rattle.std.proofs.lemmas.List.{map-append}
use Rattle.std.proofs.lemmas.Slice.Eq.{bytes_eq-Decides}
use Rattle.cd_sets.specs.declared.question.Question.{Question}
use Rattle.cd_syntax.specs.Name.{Name}
use Rattle.cd_model.specs.AllOf.{AllOf, AnyOf}
use Rattle.cd_model.specs.Formula.{Graph}
use Rattle.cd_model.specs.Membership.{answers}
use Rattle.cd_model.specs.Thing.{Thing}
use Rattle.cd_model.proofs.Covered.{each_parts}
use Rattle.cd_rules.specs.InRow.{IsInCell, IsOfNoCell, HasElsewhere, IsForRow, thing_at}
use Rattle.cd_rules.specs.InWay.{AreInWay}
use Rattle.cd_rules.specs.Rows.{Cell, Row}
use Rattle.cd_rules.proofs.FreshLabels.{row_of_a, row_is_long, longest, no_longer}
use Rattle.cd_rules.proofs.Among.{among_itself}
use Rattle.cd_rules.proofs.Answered.{map_of_each}
use Rattle.cd_model.proofs.Ones.{one_of_map, map_of_one, one_on_a_side, each_of_two}
use Rattle.cd_elements.specs.declared.shape.ElementId.{ElementId}
use Rattle.cd_elements.specs.Table.{element_at, fields_of}
use Rattle.cd_members.specs.Inner.RecordFields.{put, put_all, present_fields, fresh_fields, record_fields, labels}
use Rattle.cd_members.proofs.FieldsOnce.{cell_labels, fresh_asked, fields_once, is_of_cell, is_longer}
use Rattle.cd_members.proofs.LabelsOnce.{IsOne, AreOnce}
use Rattle.cd_members.proofs.PutFields.{at, at_there, at_others}

module _ (graph : Graph) (table : List Thing) where
  -- what is at a label is a thing in a question
  abbrev IsAt : (Name → Option Thing) → Name → Question → Type 0
  IsAt found label question = IsInCell (answers graph) (found label) (record { absent = false; value = question })

  abbrev AreAt : (Name → Option Thing) → List (Name × Question) → Type 0
  AreAt found fields = AllOf (λ field. IsAt found field.0 field.1) fields

  -- where elements are put at labels that stand once, each is there
  pub all_there : (fields : List (Name × Question)) (ids : List ElementId) (parts : List (Name × ElementId)) → AreOnce (labels fields)
      → AreInWay (map (λ id. answers graph (element_at table id)) ids) (map (λ field. field.1) fields)
      → AreAt (at table (put_all (labels fields) ids parts)) fields
  all_there [] ids parts once are = tt
  all_there (field ∷ fields) [] parts once are = absurd are
  all_there (field ∷ fields) (id ∷ ids) parts once are = (
    subst (λ (found : Option Thing). IsInCell (answers graph) found (record { absent = false; value = field.1 }))
        (sym (at_others table (labels fields) ids (put field.0 id parts) field.0 once.0 ∙ at_there table field.0 id parts)) are.0,
    all_there fields ids (put field.0 id parts) once.1 are.1,
  )

  -- a label is none of those of fields, or what is at it is in one of their questions
  of_none_or_one : (found : Name → Option Thing) (fields : List (Name × Question)) → AreAt found fields → (label : Name)
      → (IsOne (labels fields) label → ⊥) ⊎ AnyOf (IsAt found label) (map (λ field. field.1) fields)
  of_none_or_one found [] are label = inl (λ one. elim one [ ])
  of_none_or_one found (field ∷ fields) are label =
      by_test (cases_Bool (bytes_eq field.0 label)) (of_none_or_one found fields are.1 label)
    where
      other : bytes_eq field.0 label ≡ false → (IsOne (labels fields) label → ⊥) → IsOne (labels (field ∷ fields)) label → ⊥
      other differ none (inl same) = true≢false (sym ((bytes_eq-Decides field.0 label).1 same) ∙ differ)
      other differ none (inr one) = none one

      by_test : (bytes_eq field.0 label ≡ true) ⊎ (bytes_eq field.0 label ≡ false)
          → (IsOne (labels fields) label → ⊥) ⊎ AnyOf (IsAt found label) (map (λ field. field.1) fields)
          → (IsOne (labels (field ∷ fields)) label → ⊥) ⊎ AnyOf (IsAt found label) (map (λ field. field.1) (field ∷ fields))
      by_test (inl same) later =
          inr (inl (subst (λ (name : Name). IsAt found name field.1) ((bytes_eq-Decides field.0 label).0 same) are.0))
      by_test (inr differ) (inr one) = inr (inr one)
      by_test (inr differ) (inl none) = inl (λ one. other differ none one)

  -- a thing that has to be there is in the cell, and so is nothing where it may be absent
  in_cell : (found : Option Thing) (cell : Cell) → IsInCell (answers graph) found (record { absent = false; value = cell.value })
      → IsInCell (answers graph) found cell
  in_cell None cell is = absurd (true≢false (sym is))
  in_cell (Some thing) cell is = is

  cells_fit : (found : Name → Option Thing) (cells : List (Name × Cell)) → AreAt found (present_fields cells)
      → AllOf (λ cell. cell.1.absent ≡ true → found cell.0 ≡ None) cells
      → AllOf (λ cell. IsInCell (answers graph) (found cell.0) cell.1) cells
  cells_fit found [] are absent = tt
  cells_fit found (cell ∷ cells) are absent = by_test cell.1.absent refl are (λ later. cells_fit found cells later absent.1)
    where
      by_test : (test : Bool) → cell.1.absent ≡ test
          → AreAt found (if test then present_fields cells else (cell.0, cell.1.value) ∷ present_fields cells)
          → (AreAt found (present_fields cells) → AllOf (λ cell. IsInCell (answers graph) (found cell.0) cell.1) cells)
          → AllOf (λ cell. IsInCell (answers graph) (found cell.0) cell.1) (cell ∷ cells)
      by_test true is are later =
          (subst (λ (found : Option Thing). IsInCell (answers graph) found cell.1) (sym (absent.0 is)) is, later are)
      by_test false is are later = (in_cell (found cell.0) cell.1 are.0, later are.1)

  -- each of the others is at a label of no cell
  others_have : (found : Name → Option Thing) (row : Row) (least : ℕ) → longest (cell_labels row.cells) ≤ least → (some : List Question)
      → AreAt found (fresh_fields least some) → AllOf (HasElsewhere (answers graph) found row) some
  others_have found row least long [] are = tt
  others_have found row least long (question ∷ some) are = (
    (row_of_a least, of_none, are.0),
    others_have found row (suc least) (omega arith) some are.1,
  )
    where
      of_none : IsOfNoCell row (row_of_a least)
      of_none one =
          let short = no_longer (cell_labels row.cells) (row_of_a least)
          (one_of_map (λ (cell : Name × Cell). cell.0) (λ label. label ≡ row_of_a least) row.cells one) in
          absurd (omega (arith, row_is_long least))

-- a label of a cell that may be absent is none of those of what is there
absent_unlisted : (cells : List (Name × Cell)) → AreOnce (cell_labels cells)
    → AllOf (λ cell. cell.1.absent ≡ true → IsOne (labels (present_fields cells)) cell.0 → ⊥) cells
absent_unlisted [] once = tt
absent_unlisted (cell ∷ cells) once = (
  λ absent one. once.0 (is_of_cell cells cell.0 (without cell.1.absent absent one)),
  each_of_two (λ (other : Name × Cell). other.1.absent ≡ true → IsOne (labels (present_fields cells)) other.0 → ⊥)
      (λ other. (cell.0 ≡ other.0) → ⊥)
      (λ other. other.1.absent ≡ true → IsOne (labels (present_fields (cell ∷ cells))) other.0 → ⊥)
      (λ other later differ absent one. by_test other.0 (later absent) differ cell.1.absent one) cells (absent_unlisted cells once.1)
      (others_differ cells once.0),
)
  where
    without : (test : Bool) → test ≡ true
        → IsOne (labels (if test then present_fields cells else (cell.0, cell.1.value) ∷ present_fields cells)) cell.0
        → IsOne (labels (present_fields cells)) cell.0
    without true is one = one
    without false is one = absurd (true≢false (sym is))

    others_differ : (cells : List (Name × Cell)) → (IsOne (cell_labels cells) cell.0 → ⊥) → AllOf (λ other. (cell.0 ≡ other.0) → ⊥) cells
    others_differ [] none = tt
    others_differ (other ∷ cells) none = (λ same. none (inl (sym same)), others_differ cells (λ one. none (inr one)))

    by_test : (label : Name) → (IsOne (labels (present_fields cells)) label → ⊥) → (cell.0 ≡ label → ⊥) → (test : Bool)
        → IsOne (labels (if test then present_fields cells else (cell.0, cell.1.value) ∷ present_fields cells)) label → ⊥
    by_test label none differ true one = none one
    by_test label none differ false (inl same) = differ same
    by_test label none differ false (inr one) = none one

module _ (graph : Graph) (table : List Thing) (row : Row) (once : AreOnce (cell_labels row.cells)) (ids : List ElementId)
    (are : AreInWay (map (λ id. answers graph (element_at table id)) ids) (map (λ field. field.1) (record_fields row))) where
  abbrev least : ℕ
  least = longest (cell_labels row.cells)

  abbrev found : Name → Option Thing
  found = at table (put_all (labels (record_fields row)) ids [])

  there : AllOf (λ field. IsInCell (answers graph) (found field.0) (record { absent = false; value = field.1 })) (present_fields row.cells)
      × AllOf (λ field. IsInCell (answers graph) (found field.0) (record { absent = false; value = field.1 })) (fresh_fields least row.some)
  there = each_parts (λ field. IsInCell (answers graph) (found field.0) (record { absent = false; value = field.1 }))
      (present_fields row.cells) (fresh_fields least row.some)
      (all_there graph table (record_fields row) ids [] (fields_once row once) are)

  -- there is nothing at a label of no field
  nothing_at : (label : Name) → (IsOne (labels (present_fields row.cells)) label → ⊥)
      → (IsOne (labels (fresh_fields least row.some)) label → ⊥) → found label ≡ None
  nothing_at label none none_fresh = at_others table (labels (record_fields row)) ids [] label on_no_side
    where
      by_side : IsOne (labels (present_fields row.cells)) label ⊎ IsOne (labels (fresh_fields least row.some)) label → ⊥
      by_side (inl one) = none one
      by_side (inr one) = none_fresh one

      on_no_side : IsOne (labels (record_fields row)) label → ⊥
      on_no_side one = by_side (one_on_a_side (λ other. other ≡ label) (labels (present_fields row.cells))
          (labels (fresh_fields least row.some)) (subst (λ (all : List Name). IsOne all label)
          (map-append (λ field. field.0) (present_fields row.cells) (fresh_fields least row.some)) one))

  absent_at : AllOf (λ cell. cell.1.absent ≡ true → found cell.0 ≡ None) row.cells
  absent_at = each_of_two (λ (cell : Name × Cell). cell.1.absent ≡ true → IsOne (labels (present_fields row.cells)) cell.0 → ⊥)
      (λ cell. IsOne (cell_labels row.cells) cell.0) (λ cell. cell.1.absent ≡ true → found cell.0 ≡ None)
      (λ cell unlisted is absent. nothing_at cell.0 (unlisted absent) (λ one.
      let short = no_longer (cell_labels row.cells) cell.0 is in
      let long = is_longer least row.some cell.0 one in absurd (omega arith)))
      row.cells (absent_unlisted row.cells once)
      (map_of_each (λ (cell : Name × Cell). cell.0) (λ label. IsOne (cell_labels row.cells) label) row.cells
      (among_itself (cell_labels row.cells)))

  pub record_is_for_row : IsForRow (answers graph) (thing_at (fields_of table (put_all (labels (record_fields row)) ids []))) row
  record_is_for_row = (
    cells_fit graph table found row.cells there.0 absent_at,
    λ label none. by_fresh label none (of_none_or_one graph table found (fresh_fields least row.some) there.1 label),
    others_have graph table found row least (omega arith) row.some there.1,
  )
    where
      of_no_cell : (label : Name) → IsOfNoCell row label → IsOne (labels (present_fields row.cells)) label → ⊥
      of_no_cell label none one = none (map_of_one (λ (cell : Name × Cell). cell.0) (λ other. other ≡ label) row.cells
          (is_of_cell row.cells label one))

      by_fresh : (label : Name) → IsOfNoCell row label
          → (IsOne (labels (fresh_fields least row.some)) label → ⊥)
          ⊎ AnyOf (λ question. IsInCell (answers graph) (found label) (record { absent = false; value = question }))
          (map (λ field. field.1) (fresh_fields least row.some))
          → (found label ≡ None)
          ⊎ AnyOf (λ question. IsInCell (answers graph) (found label) (record { absent = false; value = question })) row.some
      by_fresh label none (inl other) = inl (nothing_at label (of_no_cell label none) other)
      by_fresh label none (inr one) =
          inr (subst (AnyOf (λ question. IsInCell (answers graph) (found label) (record { absent = false; value = question })))
          (fresh_asked least row.some) one)
