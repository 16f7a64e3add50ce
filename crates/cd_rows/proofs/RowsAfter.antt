-- The rows of a row less a type, found from the first cell on.
use Rattle.std.proofs.Common.{◌≡◌, List, [], ◌∷◌, ◌++◌, map, refl, ap, ◌∙◌, append_assoc}
use Rattle.std.proofs.Common.{ℕ, ◌+◌, ◌-◌, ◌<◌, length, drop, take, sym}
use Rattle.std.proofs.Math.ListN.{get_or}
use Rattle.std.proofs.Math.Path.{ap₂}
use Rattle.std.proofs.lemmas.List.{drop_more, map-append, take_rest}
use Rattle.cd_syntax.specs.Name.{Name}
use Rattle.cd_needs.specs.Inner.PlainCells.{plain_cells}
use Rattle.cd_needs.specs.RecordTypes.{plain_row}
use Rattle.cd_needs.specs.declared.row.FieldCell.{FieldCell}
use Rattle.cd_needs.specs.declared.row.Row.{Row as CodeRow}
use Rattle.cd_rules.specs.Clauses.{RecordType}
use Rattle.cd_rules.specs.Rows.{Cell, Row}
use Rattle.cd_rows.specs.Inner.PlainClauses.{plain_labelled}
use Rattle.cd_rows.specs.Inner.Refining.{within_type, without_type, less_cells, with_cells}
use Rattle.cd_rows.specs.Inner.Refining.{less_after, less_row, outside_rest}

moved : (row : Row) (before : List (Name × Cell)) (cell : Name × Cell)
    (boxes : List (List (Name × Cell)))
    → map (λ others. with_cells row ((before ++ (cell ∷ [])) ++ others)) boxes
    ≡ map (λ others. with_cells row (before ++ others)) (map (λ others. cell ∷ others) boxes)
moved row before cell [] = refl
moved row before cell (box ∷ boxes) = ap₂ (λ (first : Row) (rest : List Row). first ∷ rest)
    (ap (with_cells row) (append_assoc before (cell ∷ []) box)) (moved row before cell boxes)

after_these : (type : RecordType) (row : Row) (before left : List (Name × Cell))
    → less_after type row before left
    ≡ map (λ others. with_cells row (before ++ others)) (less_cells type left)
after_these type row before [] = refl
after_these type row before (cell ∷ left) =
    ap (λ rest. with_cells row (before ++ (without_type type cell ∷ left)) ∷ rest)
    (after_these type row (before ++ (within_type type cell ∷ [])) left
    ∙ moved row before (within_type type cell) (less_cells type left))

pub all_after : (type : RecordType) (row : Row)
    → less_after type row [] row.cells ++ (outside_rest type row ∷ []) ≡ less_row type row
all_after type row = ap (λ rows. rows ++ (outside_rest type row ∷ []))
    (after_these type row [] row.cells)

-- one cell further
module _ (type : RecordType) (row : Row) (before cells : List (Name × FieldCell)) (index : ℕ)
    (below : index < length cells) (head : Name × FieldCell)
    (is : head ≡ get_or cells index head) where
  abbrev left : List (Name × FieldCell)
  left = drop (index + 1) cells

  first_left : drop index cells ≡ head ∷ left
  first_left = drop_more cells index head below ∙ ap (λ first. first ∷ left) (sym is)

  module _ (cell : Name × FieldCell)
      (within : plain_labelled cell ≡ within_type type (plain_labelled head))
      (after : List (Name × FieldCell)) (pushed : after ≡ before ++ (cell ∷ [])) where
    cells_pushed : plain_cells after
        ≡ plain_cells before ++ (within_type type (plain_labelled head) ∷ [])
    cells_pushed = ap plain_cells pushed ∙ (map-append plain_labelled before (cell ∷ [])
        ∙ ap (λ last. plain_cells before ++ (last ∷ [])) within)

    pub next_cells : (all : List (Name × Cell))
        → plain_cells before ++ map (within_type type) (plain_cells (drop index cells)) ≡ all
        → plain_cells after ++ map (within_type type) (plain_cells left) ≡ all
    next_cells all so_far = ap (λ first. first ++ map (within_type type) (plain_cells left))
        cells_pushed
        ∙ (append_assoc (plain_cells before) (within_type type (plain_labelled head) ∷ [])
        (map (within_type type) (plain_cells left))
        ∙ (ap (λ those. plain_cells before ++ map (within_type type) (plain_cells those))
        (sym first_left) ∙ so_far))

    pub next_rows : (rows : List CodeRow) (made : CodeRow) (these : List (Name × FieldCell))
        → these ≡ before
        → plain_row made ≡ with_cells row (plain_cells these
        ++ (without_type type (plain_labelled head)
        ∷ plain_cells (take (length cells - (index + 1)) left)))
        → (more : List CodeRow) → more ≡ rows ++ (made ∷ []) → (all : List Row)
        → map plain_row rows
        ++ less_after type row (plain_cells before) (plain_cells (drop index cells)) ≡ all
        → map plain_row more ++ less_after type row (plain_cells after) (plain_cells left) ≡ all
    next_rows rows made these same outside more pushed_too all so_far =
        let first = with_cells row (plain_cells before
        ++ (without_type type (plain_labelled head) ∷ plain_cells left)) in
        let those = plain_cells before ++ (within_type type (plain_labelled head) ∷ []) in
        ap₂ (λ (one : List Row) (other : List Row). one ++ other)
        (ap (map plain_row) pushed_too ∙ (map-append plain_row rows (made ∷ [])
        ∙ ap (λ last. map plain_row rows ++ (last ∷ [])) (outside
        ∙ ap₂ (λ (one : List (Name × FieldCell)) (other : List (Name × FieldCell)).
        with_cells row (plain_cells one
        ++ (without_type type (plain_labelled head) ∷ plain_cells other)))
        same (take_rest cells (index + 1)))))
        (ap (λ these. less_after type row these (plain_cells left)) cells_pushed)
        ∙ (append_assoc (map plain_row rows) (first ∷ [])
        (less_after type row those (plain_cells left))
        ∙ (ap (λ those. map plain_row rows
        ++ less_after type row (plain_cells before) (plain_cells those)) (sym first_left)
        ∙ so_far))
