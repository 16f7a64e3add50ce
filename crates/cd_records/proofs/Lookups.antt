-- A record is in a row exactly when at each name it has what the row says there, and the row's other
-- questions have their things.
use Rattle.std.proofs.Common.{◌≡◌, Bool, true, false, List, [], ◌∷◌, Option, inl, inr, refl, sym, ap}
use Rattle.std.proofs.Common.{subst, ◌∙◌, bytes_eq, if◌then◌else◌}
use Rattle.std.proofs.lemmas.Bool.{true≢false}
use Rattle.std.proofs.lemmas.Slice.Eq.{bytes_eq-Decides}
use Rattle.cd_sets.specs.declared.question.Question.{Question}
use Rattle.cd_syntax.specs.Name.{Name}
use Rattle.cd_model.specs.AllOf.{AllOf, AnyOf}
use Rattle.cd_model.specs.Membership.{Answers}
use Rattle.cd_model.specs.Thing.{Thing}
use Rattle.cd_rules.specs.InRow.{IsInCell, IsOfNoCell, HasElsewhere, IsInRow}
use Rattle.cd_rules.specs.Rows.{Cell, Row}
use Rattle.cd_rows.specs.RecordRows.{HaveOwnLabels, cell_in}

-- the same name, by its letters
pub same_name : (one other : Name) → bytes_eq one other ≡ true → one ≡ other
same_name one other same = (bytes_eq-Decides one other).0 same

pub name_itself : (name : Name) → bytes_eq name name ≡ true
name_itself name = (bytes_eq-Decides name name).1 refl

pub names_differ : (one other : Name) → (one ≡ other → ⊥) → bytes_eq one other ≡ false
names_differ one other differ = by_test (bytes_eq one other) (same_name one other)
  where
    by_test : (b : Bool) → (b ≡ true → one ≡ other) → b ≡ false
    by_test true same = absurd (differ (same refl))
    by_test false same = refl

pub not_same : (one other : Name) → bytes_eq one other ≡ false → one ≡ other → ⊥
not_same one other differ same = true≢false (sym ((bytes_eq-Decides one other).1 same) ∙ differ)

abbrev Cells : Type 0
Cells = List (Name × Cell)

abbrev NoCell : Cells → Name → Type 0
NoCell cells label = AnyOf (λ cell. cell.0 ≡ label) cells → ⊥

-- what cells say of a label of none of them
pub of_no_cell : (cells : Cells) (every : Question) (label : Name) → NoCell cells label
    → cell_in cells every label ≡ record { absent = true; value = every }
of_no_cell [] every label none = refl
of_no_cell (cell ∷ cells) every label none =
    ap (λ (same : Bool). if same then cell.1 else cell_in cells every label)
    (names_differ cell.0 label (λ same. none (inl same)))
    ∙ of_no_cell cells every label (λ one. none (inr one))

-- what they say of the label of each, where no label has two
found_own : (cells : Cells) (every : Question) → HaveOwnLabels cells
    → AllOf (λ cell. cell_in cells every cell.0 ≡ cell.1) cells
found_own [] every own = tt
found_own (cell ∷ cells) every own = (
  ap (λ (same : Bool). if same then cell.1 else cell_in cells every cell.0) (name_itself cell.0),
  later cells own.0 (found_own cells every own.1),
)
  where
    later : (those : Cells) → (AnyOf (λ other. other.0 ≡ cell.0) those → ⊥)
        → AllOf (λ other. cell_in cells every other.0 ≡ other.1) those
        → AllOf (λ other. cell_in (cell ∷ cells) every other.0 ≡ other.1) those
    later [] none each = tt
    later (other ∷ those) none each = (
      ap (λ (same : Bool). if same then cell.1 else cell_in cells every other.0)
          (names_differ cell.0 other.0 (λ same. none (inl (sym same)))) ∙ each.0,
      later those (λ one. none (inr one)) each.1,
    )

module _ (answers : Thing → Answers) (at : Name → Option Thing) where
  abbrev InCell : Name × Cell → Type 0
  InCell cell = IsInCell answers (at cell.0) cell.1

  -- what a record of a row has at a name is in what the row says there
  in_cells : (cells : Cells) (every : Question) (label : Name) → AllOf InCell cells
      → (NoCell cells label → IsInCell answers (at label) (record { absent = true; value = every }))
      → IsInCell answers (at label) (cell_in cells every label)
  in_cells [] every label each others = others (λ none. none)
  in_cells (cell ∷ cells) every label each others = by_name (bytes_eq cell.0 label) refl
      (λ apart. in_cells cells every label each.1
      (λ none. others (λ one. elim one [ inl same ↦ apart same | inr later ↦ none later ])))
    where
      by_name : (same : Bool) → bytes_eq cell.0 label ≡ same
          → ((cell.0 ≡ label → ⊥) → IsInCell answers (at label) (cell_in cells every label))
          → IsInCell answers (at label) (if same then cell.1 else cell_in cells every label)
      by_name true same later = subst (λ (name : Name). IsInCell answers (at name) cell.1)
          (same_name cell.0 label same) each.0
      by_name false differ later = later (not_same cell.0 label differ)

  pub in_cell_at : (row : Row) → IsInRow answers at row → (label : Name)
      → IsInCell answers (at label) (cell_in row.cells row.every label)
  in_cell_at row in_row label = in_cells row.cells row.every label in_row.0 (in_row.1 label)

  -- and back
  pub in_row_by_names : (row : Row) → HaveOwnLabels row.cells
      → ((label : Name) → IsInCell answers (at label) (cell_in row.cells row.every label))
      → AllOf (HasElsewhere answers at row) row.some → IsInRow answers at row
  in_row_by_names row own at_names elsewhere = (
    each row.cells (found_own row.cells row.every own),
    λ label none. subst (IsInCell answers (at label))
        (of_no_cell row.cells row.every label none) (at_names label),
    elsewhere,
  )
    where
      each : (those : Cells) → AllOf (λ cell. cell_in row.cells row.every cell.0 ≡ cell.1) those
          → AllOf InCell those
      each [] found = tt
      each (cell ∷ those) found =
          (subst (IsInCell answers (at cell.0)) found.0 (at_names cell.0), each those found.1)
