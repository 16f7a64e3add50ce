-- What some record of a row whose questions have witnesses has at a label is what the row says there.
use Rattle.std.proofs.Common.{◌≡◌, Bool, true, false, List, [], ◌∷◌, Option, Some, None, ◌⊎◌, inl, inr}
use Rattle.std.proofs.Common.{refl, sym, ap, subst, ◌∙◌, bytes_eq, if◌then◌else◌}
use Rattle.cd_sets.specs.declared.question.Question.{Question}
use Rattle.cd_syntax.specs.Name.{Name, IsLabel}
use Rattle.cd_model.specs.AllOf.{AllOf, AnyOf}
use Rattle.cd_model.specs.Membership.{Answers}
use Rattle.cd_model.specs.Thing.{Thing, Fields, Record, IsElement}
use Rattle.cd_rules.specs.InRow.{thing_at, IsInCell, HasElsewhere, IsInRow}
use Rattle.cd_rules.specs.Rows.{Cell, Row}
use Rattle.cd_model.proofs.Ones.{each_weaker}
use Rattle.cd_products.specs.QuestionBoxes.{InQuestion, IsInhabited}
use Rattle.cd_rows.specs.RecordRows.{HaveOwnLabels, InRecordRow, RowHasWitnesses, cell_in}
use Rattle.cd_rows.proofs.RowsWithWitnesses.{IsOfSort}
use Rattle.cd_rows.proofs.RecordsOfRows.{has_record, has_picked}
use Rattle.cd_records.proofs.Lookups.{name_itself, names_differ, same_name, not_same}
use Rattle.cd_records.proofs.Lookups.{in_cell_at, in_row_by_names}

abbrev Cells : Type 0
Cells = List (Name × Cell)

-- cells but those of a label
abbrev others_than : Name → Cells → Cells
others_than label [] = []
others_than label (cell ∷ cells) =
    if bytes_eq cell.0 label then others_than label cells else cell ∷ others_than label cells

module _ (label : Name) where
  -- what holds of each cell holds of each of these
  each_other : (Fact : Name × Cell → Type 0) (cells : Cells) → AllOf Fact cells
      → AllOf Fact (others_than label cells)
  each_other Fact [] each = tt
  each_other Fact (cell ∷ cells) each =
      by_name (bytes_eq cell.0 label) (each_other Fact cells each.1)
    where
      by_name : (same : Bool) → AllOf Fact (others_than label cells) → AllOf Fact
          (if same then others_than label cells else cell ∷ others_than label cells)
      by_name true later = later
      by_name false later = (each.0, later)

  -- each of these is one of the cells
  one_other : (Fact : Name × Cell → Type 0) (cells : Cells)
      → AnyOf Fact (others_than label cells) → AnyOf Fact cells
  one_other Fact [] one = one
  one_other Fact (cell ∷ cells) one =
      by_name (bytes_eq cell.0 label) (one_other Fact cells) one
    where
      by_name : (same : Bool) → (AnyOf Fact (others_than label cells) → AnyOf Fact cells)
          → AnyOf Fact (if same then others_than label cells else cell ∷ others_than label cells)
          → AnyOf Fact (cell ∷ cells)
      by_name true further later = inr (further later)
      by_name false further (inl is) = inl is
      by_name false further (inr later) = inr (further later)

  -- a cell of another label is one of these
  other_kept : (cells : Cells) (name : Name) → (name ≡ label → ⊥)
      → AnyOf (λ cell. cell.0 ≡ name) cells → AnyOf (λ cell. cell.0 ≡ name) (others_than label cells)
  other_kept [] name apart one = one
  other_kept (cell ∷ cells) name apart one =
      by_name (bytes_eq cell.0 label) refl one (other_kept cells name apart)
    where
      by_name : (same : Bool) → bytes_eq cell.0 label ≡ same
          → AnyOf (λ cell. cell.0 ≡ name) (cell ∷ cells)
          → (AnyOf (λ cell. cell.0 ≡ name) cells
          → AnyOf (λ cell. cell.0 ≡ name) (others_than label cells))
          → AnyOf (λ cell. cell.0 ≡ name)
          (if same then others_than label cells else cell ∷ others_than label cells)
      by_name true same (inl is) further = absurd (apart (sym is ∙ same_name cell.0 label same))
      by_name true same (inr later) further = further later
      by_name false same (inl is) further = inl is
      by_name false same (inr later) further = inr (further later)

  -- none of these is of the label
  none_there : (cells : Cells) → AnyOf (λ cell. cell.0 ≡ label) (others_than label cells) → ⊥
  none_there [] one = one
  none_there (cell ∷ cells) one = by_name (bytes_eq cell.0 label) refl (none_there cells) one
    where
      by_name : (same : Bool) → bytes_eq cell.0 label ≡ same
          → (AnyOf (λ cell. cell.0 ≡ label) (others_than label cells) → ⊥)
          → AnyOf (λ cell. cell.0 ≡ label)
          (if same then others_than label cells else cell ∷ others_than label cells) → ⊥
      by_name true same further later = further later
      by_name false differ further (inl is) = not_same cell.0 label differ is
      by_name false differ further (inr later) = further later

  others_own : (cells : Cells) → HaveOwnLabels cells → HaveOwnLabels (others_than label cells)
  others_own [] own = tt
  others_own (cell ∷ cells) own = by_name (bytes_eq cell.0 label) (others_own cells own.1)
    where
      by_name : (same : Bool) → HaveOwnLabels (others_than label cells) → HaveOwnLabels
          (if same then others_than label cells else cell ∷ others_than label cells)
      by_name true later = later
      by_name false later =
          (λ one. own.0 (one_other (λ other. other.0 ≡ cell.0) cells one), later)

  -- they say of other names what all cells say
  others_say : (cells : Cells) (every : Question) (name : Name) → (label ≡ name → ⊥)
      → cell_in (others_than label cells) every name ≡ cell_in cells every name
  others_say [] every name apart = refl
  others_say (cell ∷ cells) every name apart =
      by_name (bytes_eq cell.0 label) refl (others_say cells every name apart)
    where
      by_name : (same : Bool) → bytes_eq cell.0 label ≡ same
          → cell_in (others_than label cells) every name ≡ cell_in cells every name
          → cell_in (if same then others_than label cells else cell ∷ others_than label cells)
          every name ≡ cell_in (cell ∷ cells) every name
      by_name true same later = later
          ∙ ap (λ (same : Bool). if same then cell.1 else cell_in cells every name)
          (sym (names_differ cell.0 name (λ is. apart (sym (same_name cell.0 label same) ∙ is))))
      by_name false differ later =
          ap (λ (said : Cell). if bytes_eq cell.0 name then cell.1 else said) later

module _ (answers : Thing → Answers) (nothing : Question)
    (is_nothing : (d : Thing) → InQuestion answers d nothing → ⊥) (label : Name)
    (is_label : IsLabel label) where
  -- nothing stands at the label
  abbrev empty_cell : Cell
  empty_cell = record { absent = true; value = nothing }

  -- a row in which this is so
  abbrev lacking : Row → Row
  lacking row = record {
    cells = (label, empty_cell) ∷ others_than label row.cells;
    every = row.every;
    some = row.some;
  }

  lacking_lives : (row : Row) → RowHasWitnesses answers IsElement row
      → RowHasWitnesses answers IsElement (lacking row)
  lacking_lives row witnesses = record {
    cells = (
      inl refl,
      each_other label
          (λ cell. (cell.1.absent ≡ true) ⊎ IsInhabited answers IsElement cell.1.value) row.cells
          witnesses.cells,
    );
    some = witnesses.some;
    within = witnesses.within;
    labels = (is_label, each_other label (λ cell. IsLabel cell.0) row.cells witnesses.labels);
    once = (none_there label row.cells, others_own label row.cells witnesses.once);
  }

  module _ (row : Row) (at : Name → Option Thing) (in_row : IsInRow answers at (lacking row)) where
    -- so a record of this row has nothing there
    lacks : at label ≡ None
    lacks = by_what (at label) (subst (IsInCell answers (at label))
        (ap (λ (same : Bool). if same then empty_cell
        else cell_in (others_than label row.cells) row.every label) (name_itself label))
        (in_cell_at answers at (lacking row) in_row label))
      where
        by_what : (what : Option Thing) → IsInCell answers what empty_cell → what ≡ None
        by_what None inside = refl
        by_what (Some d) inside = absurd (is_nothing d inside)

    -- and is in the other row, if nothing may stand there
    module _ (own : HaveOwnLabels row.cells)
        (may : (cell_in row.cells row.every label).absent ≡ true) where
      at_name : (name : Name) (same : Bool) → bytes_eq label name ≡ same
          → IsInCell answers (at name) (cell_in row.cells row.every name)
      at_name name true same =
          subst (λ (name : Name). IsInCell answers (at name) (cell_in row.cells row.every name))
          (same_name label name same)
          (subst (λ (what : Option Thing).
          IsInCell answers what (cell_in row.cells row.every label)) (sym lacks) may)
      at_name name false differ = subst (IsInCell answers (at name))
          (ap (λ (same : Bool). if same then empty_cell
          else cell_in (others_than label row.cells) row.every name) differ
          ∙ others_say label row.cells row.every name (not_same label name differ))
          (in_cell_at answers at (lacking row) in_row name)

      elsewhere : (question : Question) → HasElsewhere answers at (lacking row) question
          → HasElsewhere answers at row question
      elsewhere question (name, none, has) = (
        name,
        λ one. none (inr (other_kept label row.cells name (λ same. none (inl (sym same))) one)),
        has,
      )

      in_whole_row : IsInRow answers at row
      in_whole_row = in_row_by_names answers at row own (λ name. at_name name (bytes_eq label name) refl)
          (each_weaker (HasElsewhere answers at (lacking row)) (HasElsewhere answers at row)
          elsewhere row.some in_row.2)

  -- a record of a row that has this at the label
  abbrev pub Has : Row → Option Thing → Type 0
  Has row what = (fields : Fields) × IsElement (Record fields) × InRecordRow answers fields row
      × (thing_at fields label ≡ what)

  pub row_has : (row : Row) → RowHasWitnesses answers IsElement row → (what : Option Thing)
      → IsOfSort IsElement what → IsInCell answers what (cell_in row.cells row.every label)
      → Has row what
  row_has row witnesses None sort may =
      let made = has_record answers (lacking row) (lacking_lives row witnesses) in (
        made.0,
        made.1,
        in_whole_row row (thing_at made.0) made.2 witnesses.once may,
        lacks row (thing_at made.0) made.2,
      )
  row_has row witnesses (Some d) sort inside = has_picked answers row witnesses label d is_label sort inside

  pub has_in_row : (row : Row) (what : Option Thing) → Has row what
      → IsInCell answers what (cell_in row.cells row.every label)
  has_in_row row what (fields, is, in_row, there) =
      subst (λ (what : Option Thing). IsInCell answers what (cell_in row.cells row.every label))
      there (in_cell_at answers (thing_at fields) row in_row label)
