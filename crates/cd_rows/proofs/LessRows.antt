-- A record is in one of the rows of a row less a type exactly when it is in the row and outside the
-- type.
use Rattle.std.proofs.Common.{◌≡◌, Bool, true, false, true≢false, List, [], ◌∷◌, map}
use Rattle.std.proofs.Common.{Option, Some, None, ◌⊎◌, inl, inr, refl, sym, ap, subst, ◌∙◌}
use Rattle.std.proofs.Common.{bytes_eq}
use Rattle.std.proofs.lemmas.Bool.{cases_Bool}
use Rattle.std.proofs.lemmas.Slice.Eq.{bytes_eq-Decides}
use Rattle.cd_sets.specs.declared.question.Question.{Question}
use Rattle.cd_syntax.specs.Name.{Name}
use Rattle.cd_model.specs.AllOf.{AllOf, AnyOf}
use Rattle.cd_model.specs.Membership.{Answers}
use Rattle.cd_model.specs.Thing.{Thing}
use Rattle.cd_rules.specs.Clauses.{RecordType}
use Rattle.cd_rules.specs.InRow.{IsInCell, IsOfNoCell, HasElsewhere, IsInRow}
use Rattle.cd_rules.specs.Rows.{Cell, Row, field_at}
use Rattle.cd_rules.proofs.InCells.{Says}
use Rattle.cd_rules.proofs.LabelsNamed.{free_field}
use Rattle.cd_model.proofs.Ones.{each_weaker, one_weaker, one_of_map, map_of_one, one_with_each}
use Rattle.cd_model.proofs.Ones.{one_leads, one_on_left, one_on_right, one_on_a_side}
use Rattle.cd_products.specs.QuestionBoxes.{without_node}
use Rattle.cd_rows.specs.Inner.Refining.{within_type, less_cells, with_cells}
use Rattle.cd_rows.specs.Inner.Refining.{outside_rest, less_row}
use Rattle.cd_rows.proofs.Narrowing.{within_is, without_is, in_without}

-- the labels of cells
abbrev pub labels_in : List (Name × Cell) → List Name
labels_in cells = map (λ cell. cell.0) cells

-- cells with the same labels
abbrev HaveThese : List Name → List (Name × Cell) → Type 0
HaveThese labels cells = labels_in cells ≡ labels

pub within_labels : (type : RecordType) (cells : List (Name × Cell))
    → labels_in (map (within_type type) cells) ≡ labels_in cells
within_labels type [] = refl
within_labels type (cell ∷ cells) = ap (λ names. cell.0 ∷ names) (within_labels type cells)

pub less_labels : (type : RecordType) (cells : List (Name × Cell))
    → AllOf (HaveThese (labels_in cells)) (less_cells type cells)
less_labels type [] = tt
less_labels type (cell ∷ cells) = (refl, in_front (less_cells type cells) (less_labels type cells))
  where
    in_front : (boxes : List (List (Name × Cell))) → AllOf (HaveThese (labels_in cells)) boxes
        → AllOf (HaveThese (labels_in (cell ∷ cells)))
        (map (λ others. within_type type cell ∷ others) boxes)
    in_front [] each = tt
    in_front (box ∷ boxes) each =
        (ap (λ names. cell.0 ∷ names) each.0, in_front boxes each.1)

-- a label of none of some cells is one of no others with the same labels
pub no_cell : (cells others : List (Name × Cell)) → labels_in others ≡ labels_in cells
    → (label : Name) → (AnyOf (λ cell. cell.0 ≡ label) cells → ⊥)
    → AnyOf (λ cell. cell.0 ≡ label) others → ⊥
no_cell cells others same label none one =
    none (map_of_one (λ cell. cell.0) (λ name. name ≡ label) cells
    (subst (AnyOf (λ name. name ≡ label)) same
    (one_of_map (λ cell. cell.0) (λ name. name ≡ label) others one)))

-- a label has a cell or not
pub cell_or_none : (cells : List (Name × Cell)) (label : Name)
    → AnyOf (λ cell. cell.0 ≡ label) cells ⊎ (AnyOf (λ cell. cell.0 ≡ label) cells → ⊥)
cell_or_none [] label = inr (λ one. one)
cell_or_none (cell ∷ cells) label =
    by_name (cases_Bool (bytes_eq cell.0 label)) (cell_or_none cells label)
  where
    by_name : (bytes_eq cell.0 label ≡ true) ⊎ (bytes_eq cell.0 label ≡ false)
        → AnyOf (λ cell. cell.0 ≡ label) cells ⊎ (AnyOf (λ cell. cell.0 ≡ label) cells → ⊥)
        → AnyOf (λ cell. cell.0 ≡ label) (cell ∷ cells)
        ⊎ (AnyOf (λ cell. cell.0 ≡ label) (cell ∷ cells) → ⊥)
    by_name (inl same) later = inl (inl ((bytes_eq-Decides cell.0 label).0 same))
    by_name (inr differ) (inl one) = inl (inr one)
    by_name (inr differ) (inr none) = inr (λ one. elim one [
      | inl same ↦ true≢false (sym ((bytes_eq-Decides cell.0 label).1 same) ∙ differ)
      | inr later ↦ none later
    ])

module _ (answers : Thing → Answers) (at : Name → Option Thing) where
  -- what is at the label of a cell is in it, and is as a type says
  abbrev InCell : Name × Cell → Type 0
  InCell cell = IsInCell answers (at cell.0) cell.1

  abbrev InCells : List (Name × Cell) → Type 0
  InCells cells = AllOf InCell cells

  abbrev IsAs : RecordType → Bool → Name × Cell → Type 0
  IsAs type answer cell = Says answers (at cell.0) (field_at type cell.0) answer

  -- the record is outside a type
  abbrev pub IsOutside : RecordType → Type 0
  IsOutside type = (label : Name) × Says answers (at label) (field_at type label) false

  -- what is at labels of no cell
  abbrev HasEvery : Row → Type 0
  HasEvery row = (label : Name) → IsOfNoCell row label
      → IsInCell answers (at label) (record { absent = true; value = row.every })

  abbrev HasSome : Row → Type 0
  HasSome row = AllOf (HasElsewhere answers at row) row.some

  -- a cell before each of some lists of cells
  put : (cell : Name × Cell) (boxes : List (List (Name × Cell))) → InCell cell
      → AnyOf InCells boxes → AnyOf InCells (map (λ others. cell ∷ others) boxes)
  put cell [] is one = absurd one
  put cell (box ∷ boxes) is (inl here) = inl (is, here)
  put cell (box ∷ boxes) is (inr later) = inr (put cell boxes is later)

  taken_off : (cell : Name × Cell) (boxes : List (List (Name × Cell)))
      → AnyOf InCells (map (λ others. cell ∷ others) boxes) → InCell cell × AnyOf InCells boxes
  taken_off cell [] one = absurd one
  taken_off cell (box ∷ boxes) (inl here) = (here.0, inl here.1)
  taken_off cell (box ∷ boxes) (inr later) =
      let found = taken_off cell boxes later in (found.0, inr found.1)

  module _ (type : RecordType) where
    cells_only : (cells : List (Name × Cell)) → AnyOf InCells (less_cells type cells)
        → InCells cells × AnyOf (IsAs type false) cells
    cells_only [] one = absurd one
    cells_only (cell ∷ cells) (inl here) =
        let first = (without_is answers (at cell.0) (field_at type cell.0) cell.1).0 here.0 in
        ((first.0, here.1), inl first.1)
    cells_only (cell ∷ cells) (inr later) =
        let off = taken_off (within_type type cell) (less_cells type cells) later in
        let first = (within_is answers (at cell.0) (field_at type cell.0) cell.1).0 off.0 in
        let rest = cells_only cells off.1 in
        ((first.0, rest.0), inr rest.1)

    cells_within : (cells : List (Name × Cell)) → InCells (map (within_type type) cells)
        → InCells cells
    cells_within [] each = tt
    cells_within (cell ∷ cells) each = (
      ((within_is answers (at cell.0) (field_at type cell.0) cell.1).0 each.0).0,
      cells_within cells each.1,
    )

    -- the cells are as the type says
    cells_as : (cells : List (Name × Cell)) → InCells cells → AllOf (IsAs type true) cells
        → InCells (map (within_type type) cells)
    cells_as [] each are = tt
    cells_as (cell ∷ cells) each are = (
      (within_is answers (at cell.0) (field_at type cell.0) cell.1).1 (each.0, are.0),
      cells_as cells each.1 are.1,
    )

    -- rows with other cells, of the same labels
    module _ (row : Row) where
      to_every : (cells : List (Name × Cell)) → labels_in cells ≡ labels_in row.cells
          → HasEvery row → HasEvery (with_cells row cells)
      to_every cells same every label none =
          every label (no_cell cells row.cells (sym same) label none)

      from_every : (cells : List (Name × Cell)) → labels_in cells ≡ labels_in row.cells
          → HasEvery (with_cells row cells) → HasEvery row
      from_every cells same every label none =
          every label (no_cell row.cells cells same label none)

      to_some : (cells : List (Name × Cell)) → labels_in cells ≡ labels_in row.cells
          → (some : List Question) → AllOf (HasElsewhere answers at row) some
          → AllOf (HasElsewhere answers at (with_cells row cells)) some
      to_some cells same some each = each_weaker (HasElsewhere answers at row)
          (HasElsewhere answers at (with_cells row cells))
          (λ question has. (has.0, no_cell row.cells cells same has.0 has.1, has.2)) some each

      from_some : (cells : List (Name × Cell)) → labels_in cells ≡ labels_in row.cells
          → (some : List Question) → AllOf (HasElsewhere answers at (with_cells row cells)) some
          → AllOf (HasElsewhere answers at row) some
      from_some cells same some each =
          each_weaker (HasElsewhere answers at (with_cells row cells))
          (HasElsewhere answers at row)
          (λ question has. (has.0, no_cell cells row.cells (sym same) has.0 has.1, has.2)) some
          each

      -- a record in one of the rows is in the row, and outside the type
      module _ (free : (label : Name) → IsOfNoCell row label
          → field_at type label ≡ free_field type) where
        abbrev InRow : Row → Type 0
        InRow = IsInRow answers at

        outside_of_some : HasElsewhere answers at (outside_rest type row)
            (without_node type.rest row.every) → IsOutside type
        outside_of_some (label, none, is) = (
          label,
          subst (λ field. Says answers (at label) field false)
              (sym (free label
              (no_cell (map (within_type type) row.cells) row.cells
              (sym (within_labels type row.cells)) label none)))
              (by_what (at label) is),
        )
          where
            by_what : (what : Option Thing)
                → IsInCell answers what
                (record { absent = false; value = without_node type.rest row.every })
                → Says answers what (free_field type) false
            by_what None is = absurd (true≢false (sym is))
            by_what (Some d) is = ((in_without answers d type.rest row.every).0 is).1

        last_only : InRow (outside_rest type row) → InRow row × IsOutside type
        last_only is =
            let cells = map (within_type type) row.cells in
            let same = within_labels type row.cells in (
              (
                cells_within row.cells is.0,
                from_every cells same is.1,
                from_some cells same row.some is.2.1,
              ),
              outside_of_some is.2.0,
            )

        outside_at : AnyOf (IsAs type false) row.cells → IsOutside type
        outside_at = one_leads (IsAs type false) (λ cell is. (cell.0, is)) row.cells

        others_only : AnyOf (λ cells. InRow (with_cells row cells)) (less_cells type row.cells)
            → InRow row × IsOutside type
        others_only one =
            let boxes = less_cells type row.cells in
            let those = one_with_each (λ cells. InRow (with_cells row cells))
            (HaveThese (labels_in row.cells)) boxes one (less_labels type row.cells) in
            let back = cells_only row.cells
            (one_weaker (λ cells. InRow (with_cells row cells)) InCells (λ cells is. is.0) boxes
            one) in
            let rest : HasEvery row × HasSome row = one_leads
            (λ cells. InRow (with_cells row cells) × HaveThese (labels_in row.cells) cells)
            (λ cells both. (
              from_every cells both.1 both.0.1,
              from_some cells both.1 row.some both.0.2,
            )) boxes those in
            ((back.0, rest.0, rest.1), outside_at back.1)

        pub less_only : AnyOf InRow (less_row type row) → InRow row × IsOutside type
        less_only one = elim (one_on_a_side InRow
            (map (with_cells row) (less_cells type row.cells)) (outside_rest type row ∷ []) one) [
              | inl here ↦ others_only
                  (map_of_one (with_cells row) InRow (less_cells type row.cells) here)
              | inr (inl last) ↦ last_only last
              | inr (inr none) ↦ absurd none
            ]

        -- and one that is so is in one of the rows
        module _ (decided : (label : Name)
            → Says answers (at label) (field_at type label) true
            ⊎ Says answers (at label) (field_at type label) false) where
          cells_cover : (cells : List (Name × Cell)) → InCells cells
              → AnyOf (IsAs type false) cells → AnyOf InCells (less_cells type cells)
          cells_cover [] each out = absurd out
          cells_cover (cell ∷ cells) each (inl out) =
              inl (
                (without_is answers (at cell.0) (field_at type cell.0) cell.1).1
                    (each.0, out),
                each.1,
              )
          cells_cover (cell ∷ cells) each (inr later) =
              let further = cells_cover cells each.1 later in
              elim (decided cell.0) [
                | inl yes_ ↦ inr (put (within_type type cell) (less_cells type cells)
                    ((within_is answers (at cell.0) (field_at type cell.0) cell.1).1
                    (each.0, yes_)) further)
                | inr no_ ↦ inl (
                  (without_is answers (at cell.0) (field_at type cell.0) cell.1).1
                      (each.0, no_),
                  each.1,
                )
              ]

          -- all cells are as the type says or one is not
          all_or_one : (cells : List (Name × Cell))
              → AllOf (IsAs type true) cells ⊎ AnyOf (IsAs type false) cells
          all_or_one [] = inl tt
          all_or_one (cell ∷ cells) = elim (decided cell.0) [
            | inr out ↦ inr (inl out)
            | inl is ↦ elim (all_or_one cells) [
              | inl each ↦ inl (is, each)
              | inr later ↦ inr (inr later)
            ]
          ]

          -- outside the type at the label of a cell
          at_cell : InRow row → AnyOf (IsAs type false) row.cells → AnyOf InRow (less_row type row)
          at_cell is out =
              let boxes = less_cells type row.cells in
              one_on_left InRow (map (with_cells row) boxes) (outside_rest type row ∷ [])
              (one_of_map (with_cells row) InRow boxes
              (one_weaker (λ cells. InCells cells × HaveThese (labels_in row.cells) cells)
              (λ cells. InRow (with_cells row cells))
              (λ cells both. (
                both.0,
                to_every cells both.1 is.1,
                to_some cells both.1 row.some is.2,
              )) boxes
              (one_with_each InCells (HaveThese (labels_in row.cells)) boxes
              (cells_cover row.cells is.0 out) (less_labels type row.cells))))

          -- outside it at another label
          elsewhere : InRow row → AllOf (IsAs type true) row.cells → (label : Name)
              → IsOfNoCell row label → Says answers (at label) (field_at type label) false
              → AnyOf InRow (less_row type row)
          elsewhere is each label none out =
              let cells = map (within_type type) row.cells in
              let same = within_labels type row.cells in
              one_on_right InRow (map (with_cells row) (less_cells type row.cells))
              (outside_rest type row ∷ [])
              (inl (
                cells_as row.cells is.0 each,
                to_every cells same is.1,
                (
                  (
                    label,
                    no_cell row.cells cells same label none,
                    by_what (at label) (is.1 label none)
                        (subst (λ field. Says answers (at label) field false)
                        (free label none) out),
                  ),
                  to_some cells same row.some is.2,
                ),
              ))
            where
              by_what : (what : Option Thing)
                  → IsInCell answers what (record { absent = true; value = row.every })
                  → Says answers what (free_field type) false
                  → IsInCell answers what
                  (record { absent = false; value = without_node type.rest row.every })
              by_what None is out = absurd (true≢false out)
              by_what (Some d) is out =
                  (in_without answers d type.rest row.every).1 (is, out)

          pub less_cover : InRow row → IsOutside type → AnyOf InRow (less_row type row)
          less_cover is (label, out) = by_cell (cell_or_none row.cells label)
            where
              by_all : (AnyOf (λ cell. cell.0 ≡ label) row.cells → ⊥)
                  → AllOf (IsAs type true) row.cells ⊎ AnyOf (IsAs type false) row.cells
                  → AnyOf InRow (less_row type row)
              by_all none (inl each) = elsewhere is each label none out
              by_all none (inr one) = at_cell is one

              by_cell : AnyOf (λ cell. cell.0 ≡ label) row.cells
                  ⊎ (AnyOf (λ cell. cell.0 ≡ label) row.cells → ⊥)
                  → AnyOf InRow (less_row type row)
              by_cell (inl one) = at_cell is
                  (one_weaker (λ cell. cell.0 ≡ label) (IsAs type false)
                  (λ cell same. subst
                  (λ (name : Name). Says answers (at name) (field_at type name) false)
                  (sym same) out) row.cells one)
              by_cell (inr none) = by_all none (all_or_one row.cells)
