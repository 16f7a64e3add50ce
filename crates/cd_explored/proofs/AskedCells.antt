-- The first cell with a label.
use Rattle.std.proofs.Common.{◌≡◌, ◌<◌, ℕ, zero, suc, Bool, true, List, [], ◌∷◌, map, drop, length, get_or}
use Rattle.std.proofs.Common.{sym, subst, ◌∙◌, ap, arith, bytes_eq, if◌then◌else◌}
use Rattle.cd_sets.specs.declared.question.Question.{Question}
use Rattle.cd_syntax.specs.Name.{Name}
use Rattle.cd_needs.specs.RecordTypes.{plain_cell}
use Rattle.cd_needs.specs.declared.row.FieldCell.{FieldCell}
use Rattle.cd_rules.specs.Rows.{Cell}
use Rattle.cd_rows.specs.RecordRows.{cell_in}

abbrev plain_field : Name × FieldCell → Name × Cell
plain_field field = (field.0, plain_cell field.1)

module _ (every : Question) (label : Name) where
  found_at : (fields : List (Name × FieldCell)) (index : ℕ) (field : Name × FieldCell)
      → index < length fields → field ≡ get_or fields index field
      → bytes_eq field.0 label ≡ true
      → (cell_in (map plain_field (drop index fields)) every label).value ≡ field.1.value
  found_at [] index field below is same = absurd (omega arith)
  found_at (one ∷ fields) zero field below is same =
      ap (λ (b : Bool). (if b then plain_cell one.1
      else cell_in (map plain_field fields) every label).value)
      (ap (λ (one : Name × FieldCell). bytes_eq one.0 label) (sym is) ∙ same)
      ∙ ap (λ (one : Name × FieldCell). one.1.value) (sym is)
  found_at (one ∷ fields) (suc index) field below is same =
      found_at fields index field (omega arith) is same

  pub found_cell : (fields others : List (Name × FieldCell)) (index : ℕ)
      (field : Name × FieldCell) → others ≡ fields → index < length others
      → field ≡ get_or others index field → bytes_eq field.0 label ≡ true
      → (cell_in (map plain_field (drop index fields)) every label).value ≡ field.1.value
  found_cell fields others index field are below is same = found_at fields index field
      (subst (λ (fields : List (Name × FieldCell)). index < length fields) are below)
      (subst (λ (fields : List (Name × FieldCell)). field ≡ get_or fields index field) are is)
      same
