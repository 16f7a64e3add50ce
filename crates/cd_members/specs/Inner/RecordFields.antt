-- The fields of a record that is made for a row.
use Rattle.std.specs.Prelude.{ℕ, suc, List, [], ◌∷◌, ◌++◌, map, Result, Ok, Err, slice_set}
use Rattle.std.specs.Prelude.{if◌then◌else◌}
use Rattle.std.specs.List.{insert}
use Rattle.std.specs.Ordering.{nat_cmp, match_ordering}
use Rattle.std.specs.Cmp.Lexicographic.{slice_cmp}
use Rattle.cd_sets.specs.declared.question.Question.{Question}
use Rattle.cd_syntax.specs.Name.{Name}
use Rattle.cd_elements.specs.declared.shape.ElementId.{ElementId}
use Rattle.cd_rules.specs.Rows.{Cell, Row}
use Rattle.cd_rules.proofs.FreshLabels.{longest, row_of_a}

-- fields with this at a label, in the place of what they have there
abbrev pub put : Name → ElementId → List (Name × ElementId) → List (Name × ElementId)
put label id [] = (label, id) ∷ []
put label id (part ∷ parts) =
    match_ordering (slice_cmp nat_cmp label part.0) ((label, id) ∷ part ∷ parts)
    ((label, id) ∷ parts) (part ∷ put label id parts)

-- it is put at a place: in the place of the field there, or before it
abbrev pub put_at : Result ℕ ℕ → Name → ElementId → List (Name × ElementId)
    → List (Name × ElementId)
put_at (Ok place) label id parts = slice_set parts place (label, id)
put_at (Err place) label id parts = insert parts place (label, id)

-- fields with an element at each of these labels
abbrev pub put_all : List Name → List ElementId → List (Name × ElementId) → List (Name × ElementId)
put_all [] ids parts = parts
put_all (label ∷ labels) [] parts = parts
put_all (label ∷ labels) (id ∷ ids) parts = put_all labels ids (put label id parts)

-- the cells that may not be absent: their labels, and what is there
abbrev pub present_fields : List (Name × Cell) → List (Name × Question)
present_fields [] = []
present_fields (cell ∷ cells) = if cell.1.absent then present_fields cells
    else (cell.0, cell.1.value) ∷ present_fields cells

-- these questions at labels that are longer than that, and differ
abbrev pub fresh_fields : (least : ℕ) → List Question → List (Name × Question)
fresh_fields least [] = []
fresh_fields least (question ∷ some) = (row_of_a least, question) ∷ fresh_fields (suc least) some

-- what a record that is made for a row has at which labels
abbrev pub record_fields : Row → List (Name × Question)
record_fields row = present_fields row.cells
    ++ fresh_fields (longest (map (λ cell. cell.0) row.cells)) row.some

-- their labels
abbrev pub labels : List (Name × Question) → List Name
labels fields = map (λ field. field.0) fields
