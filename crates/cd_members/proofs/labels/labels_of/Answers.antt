use Rattle.std.proofs.Common.{◌≡◌, ◌∙◌, refl, sym, ap, ap₂, ℕ, List, [], ◌∷◌, ◌++◌, map}
use Rattle.cd_sets.specs.declared.question.Question.{Question}
use Rattle.cd_syntax.specs.Name.{Name}
use Rattle.cd_needs.specs.RecordTypes.{plain_cell, plain_row}
use Rattle.cd_needs.specs.declared.row.FieldCell.{FieldCell}
use Rattle.cd_needs.specs.declared.row.Row.{Row}
use Rattle.cd_rules.proofs.FreshLabels.{longest}
use Rattle.cd_members.specs.Inner.RecordFields.{labels, present_fields, fresh_fields, record_fields}
use Rattle.cd_members.proofs.FieldsOnce.{cell_labels, labels_join}
use Rattle.cd_members.proofs.labels.labels_of.Goals as goal

-- the labels of the cells of the code
plain_labels : (cells : List (Name × FieldCell))
    → cell_labels (map (λ cell. (cell.0, plain_cell cell.1)) cells) ≡ map (λ cell. cell.0) cells
plain_labels [] = refl
plain_labels (cell ∷ cells) = ap (λ names. cell.0 ∷ names) (plain_labels cells)

-- those of the cells that may not be absent, and those of the other questions, are those of the row
labels_are : (row : Row) (cells : List (Name × FieldCell)) (names all : List Name) (least : ℕ) (some : List Question)
    → cells ≡ row.fields.items → names ≡ labels (present_fields (map (λ cell. (cell.0, plain_cell cell.1)) cells))
    → least ≡ longest (map (λ cell. cell.0) cells) → some ≡ row.some → all ≡ names ++ labels (fresh_fields least some)
    → all ≡ labels (record_fields (plain_row row))
labels_are row cells names all least some of_cells of_names of_least of_some is = is
    ∙ ap₂ (λ names others. names ++ others)
    (of_names ∙ ap (λ (cells : List (Name × FieldCell)). labels (present_fields (map (λ cell. (cell.0, plain_cell cell.1)) cells))) of_cells)
    (ap₂ (λ least some. labels (fresh_fields least some))
    (of_least ∙ ap (λ (cells : List (Name × FieldCell)). longest (map (λ cell. cell.0) cells)) of_cells
    ∙ ap longest (sym (plain_labels row.fields.items))) of_some)
    ∙ sym (labels_join (plain_row row))

pub returns : goal.returns
returns c = labels_are c.args.row.now c.as_slice-cells.result.now c.in_ok-all.all.items c.in_ok-with_fresh.field-0.items c.longest.result
    c.items.result.now c.as_slice-cells.ensures.value c.in_ok-all.ensures c.longest.ensures c.items.ensures c.in_ok-with_fresh.ensures
