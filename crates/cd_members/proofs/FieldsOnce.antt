-- The fields of a record that is made for a row: their labels differ, and their questions are those that have elements.
use Rattle.std.proofs.Common.{◌≡◌, ℕ, zero, suc, ◌+◌, ◌<◌, Bool, true, false, List, [], ◌∷◌, ◌++◌, map, length}
use Rattle.std.proofs.Common.{if◌then◌else◌, inl, inr, refl, sym, ap, ap₂, ◌∙◌, subst, drop, drop-cons, append_assoc, add-one, arith}
use Rattle.std.proofs.lemmas.List.{map-append}
use Rattle.cd_sets.specs.declared.question.Question.{Question}
use Rattle.cd_syntax.specs.Name.{Name, IsLabel}
use Rattle.cd_model.specs.AllOf.{AllOf}
use Rattle.cd_rules.specs.Rows.{Cell, Row}
use Rattle.cd_rules.specs.Tasks.{present}
use Rattle.cd_rules.proofs.FreshLabels.{row_of_a, row_is_long, row_is_label, longest, no_longer}
use Rattle.cd_model.proofs.Ones.{each_of_lists}
use Rattle.cd_members.specs.Inner.RecordFields.{present_fields, fresh_fields, record_fields, labels}
use Rattle.cd_members.proofs.LabelsOnce.{IsOne, AreOnce, both_once}

-- one letter more
pub row_more : (n : ℕ) → row_of_a n ++ 97 ∷ [] ≡ row_of_a (suc n)
row_more zero = refl
row_more (suc n) = ap (λ row. 97 ∷ row) (row_more n)

-- the labels of cells
abbrev pub cell_labels : List (Name × Cell) → List Name
cell_labels cells = map (λ cell. cell.0) cells

-- what is there is what has elements
present_asked : (cells : List (Name × Cell)) → map (λ field. field.1) (present_fields cells) ≡ present cells
present_asked [] = refl
present_asked (cell ∷ cells) = by_test cell.1.absent (present_asked cells)
  where
    by_test : (test : Bool) → map (λ field. field.1) (present_fields cells) ≡ present cells
        → map (λ field. field.1) (if test then present_fields cells else (cell.0, cell.1.value) ∷ present_fields cells)
        ≡ (if test then present cells else cell.1.value ∷ present cells)
    by_test true later = later
    by_test false later = ap (λ questions. cell.1.value ∷ questions) later

pub fresh_asked : (least : ℕ) (some : List Question) → map (λ field. field.1) (fresh_fields least some) ≡ some
fresh_asked least [] = refl
fresh_asked least (question ∷ some) = ap (λ questions. question ∷ questions) (fresh_asked (suc least) some)

pub fields_asked : (row : Row) → map (λ field. field.1) (record_fields row) ≡ present row.cells ++ row.some
fields_asked row = map-append (λ field. field.1) (present_fields row.cells) (fresh_fields (longest (cell_labels row.cells)) row.some)
    ∙ ap₂ (λ some others. some ++ others) (present_asked row.cells) (fresh_asked (longest (cell_labels row.cells)) row.some)

-- a label of what is there is that of a cell
pub is_of_cell : (cells : List (Name × Cell)) (label : Name) → IsOne (labels (present_fields cells)) label → IsOne (cell_labels cells) label
is_of_cell [] label one = one
is_of_cell (cell ∷ cells) label one = by_test cell.1.absent one (is_of_cell cells label)
  where
    by_test : (test : Bool)
        → IsOne (labels (if test then present_fields cells else (cell.0, cell.1.value) ∷ present_fields cells)) label
        → (IsOne (labels (present_fields cells)) label → IsOne (cell_labels cells) label) → IsOne (cell_labels (cell ∷ cells)) label
    by_test true one later = inr (later one)
    by_test false (inl same) later = inl same
    by_test false (inr one) later = inr (later one)

-- what is put at the others is longer
pub is_longer : (least : ℕ) (some : List Question) (label : Name) → IsOne (labels (fresh_fields least some)) label → least < length label
is_longer least [] label one = elim one [ ]
is_longer least (question ∷ some) label (inl same) = let equal = ap length same in omega (arith, row_is_long least)
is_longer least (question ∷ some) label (inr later) = let longer = is_longer (suc least) some label later in omega arith

-- so each label stands once
present_once : (cells : List (Name × Cell)) → AreOnce (cell_labels cells) → AreOnce (labels (present_fields cells))
present_once [] once = tt
present_once (cell ∷ cells) once = by_test cell.1.absent (present_once cells once.1)
  where
    by_test : (test : Bool) → AreOnce (labels (present_fields cells))
        → AreOnce (labels (if test then present_fields cells else (cell.0, cell.1.value) ∷ present_fields cells))
    by_test true later = later
    by_test false later = (λ one. once.0 (is_of_cell cells cell.0 one), later)

fresh_once : (least : ℕ) (some : List Question) → AreOnce (labels (fresh_fields least some))
fresh_once least [] = tt
fresh_once least (question ∷ some) = (
  λ one. let longer = is_longer (suc least) some (row_of_a least) one in absurd (omega (arith, row_is_long least)),
  fresh_once (suc least) some,
)

pub labels_join : (row : Row)
    → labels (record_fields row) ≡ labels (present_fields row.cells) ++ labels (fresh_fields (longest (cell_labels row.cells)) row.some)
labels_join row = map-append (λ field. field.0) (present_fields row.cells) (fresh_fields (longest (cell_labels row.cells)) row.some)

pub fields_once : (row : Row) → AreOnce (cell_labels row.cells) → AreOnce (labels (record_fields row))
fields_once row once = subst AreOnce (sym (labels_join row)) (both_once (labels (present_fields row.cells))
    (labels (fresh_fields (longest (cell_labels row.cells)) row.some)) (present_once row.cells once)
    (fresh_once (longest (cell_labels row.cells)) row.some) apart)
  where
    apart : (label : Name) → IsOne (labels (present_fields row.cells)) label
        → IsOne (labels (fresh_fields (longest (cell_labels row.cells)) row.some)) label → ⊥
    apart label here there =
        let short = no_longer (cell_labels row.cells) label (is_of_cell row.cells label here) in
        let long = is_longer (longest (cell_labels row.cells)) row.some label there in
        absurd (omega arith)

-- and each is a label
present_labelled : (cells : List (Name × Cell)) → AllOf IsLabel (cell_labels cells) → AllOf IsLabel (labels (present_fields cells))
present_labelled [] are = tt
present_labelled (cell ∷ cells) are = by_test cell.1.absent (present_labelled cells are.1)
  where
    by_test : (test : Bool) → AllOf IsLabel (labels (present_fields cells))
        → AllOf IsLabel (labels (if test then present_fields cells else (cell.0, cell.1.value) ∷ present_fields cells))
    by_test true later = later
    by_test false later = (are.0, later)

fresh_labelled : (least : ℕ) (some : List Question) → AllOf IsLabel (labels (fresh_fields least some))
fresh_labelled least [] = tt
fresh_labelled least (question ∷ some) = (row_is_label least, fresh_labelled (suc least) some)

pub fields_labelled : (row : Row) → AllOf IsLabel (cell_labels row.cells) → AllOf IsLabel (labels (record_fields row))
fields_labelled row are = subst (AllOf IsLabel) (sym (labels_join row)) (each_of_lists IsLabel (labels (present_fields row.cells))
    (labels (fresh_fields (longest (cell_labels row.cells)) row.some)) (present_labelled row.cells are)
    (fresh_labelled (longest (cell_labels row.cells)) row.some))

-- one more of the others is listed
pub fresh_step : (all : List Name) (least index : ℕ) (some : List Question) → index < length some
    → all ++ labels (fresh_fields (least + index) (drop index some))
    ≡ (all ++ row_of_a (least + index) ∷ []) ++ labels (fresh_fields (least + (index + 1)) (drop (index + 1) some))
fresh_step all least index some within =
    ap (λ rest. all ++ labels (fresh_fields (least + index) rest)) (drop-cons some index (record { pos = []; neg = [] }) within)
    ∙ sym (append_assoc all (row_of_a (least + index) ∷ []) (labels (fresh_fields (suc (least + index)) (drop (suc index) some))))
    ∙ ap₂ (λ number place. (all ++ row_of_a (least + index) ∷ []) ++ labels (fresh_fields number (drop place some)))
    next (sym (add-one index))
  where
    next : suc (least + index) ≡ least + (index + 1)
    next = omega arith
