-- A record is in the first row of a clause exactly when it is in each wanted type.
use Rattle.std.proofs.Common.{◌≡◌, true, List, [], ◌∷◌, ◌++◌, Option, Some, None, refl, ap, subst}
use Rattle.std.proofs.Common.{map}
use Rattle.cd_syntax.specs.Name.{Name}
use Rattle.cd_model.specs.AllOf.{AllOf}
use Rattle.cd_model.specs.Membership.{Answers}
use Rattle.cd_model.specs.Thing.{Thing}
use Rattle.cd_model.proofs.Labels.{IsOneOf}
use Rattle.cd_rules.specs.Clauses.{RecordType}
use Rattle.cd_rules.specs.InRow.{IsInCell, IsOfNoCell, IsInRow}
use Rattle.cd_rules.specs.Rows.{Cell, Row, field_at, labels_of, cell_at}
use Rattle.cd_rules.proofs.Asking.{each_of_map}
use Rattle.cd_rules.proofs.InCells.{Says, value_in, into_cell}
use Rattle.cd_rules.proofs.LabelsNamed.{free_field, IsUnnamed, unnamed_parts}
use Rattle.cd_model.proofs.Ones.{each_of_all, each_of_two, one_of_map}
use Rattle.cd_rules.proofs.RowsExact.{unnamed_by_all, say_no_more, wanted_in_row}
use Rattle.cd_rows.specs.Inner.Refining.{first_row}
use Rattle.cd_rows.proofs.LessRows.{labels_in}
use Rattle.cd_rows.proofs.RefinedRows.{HasThese, NamesNoMore}

module _ (wanted refused : List RecordType) where
  abbrev pub labels : List Name
  labels = labels_of (wanted ++ refused)

  unnamed : (label : Name) → (IsOneOf labels label → ⊥)
      → IsUnnamed wanted label × IsUnnamed refused label
  unnamed label none =
      unnamed_parts wanted refused label (unnamed_by_all (wanted ++ refused) label none)

  -- the refused types name only these labels
  pub name_no_more : AllOf (NamesNoMore labels) refused
  name_no_more = say_no_more labels refused (λ label none. (unnamed label none).1)

  same_labels : (cell_of : Name → Cell) (names : List Name)
      → labels_in (map (λ label. (label, cell_of label)) names) ≡ names
  same_labels cell_of [] = refl
  same_labels cell_of (name ∷ names) = ap (λ others. name ∷ others) (same_labels cell_of names)

  pub first_labels : HasThese labels (first_row wanted refused)
  first_labels = same_labels (cell_at wanted []) labels

  module _ (answers : Thing → Answers) (at : Name → Option Thing) where
    abbrev IsAs : Name → RecordType → Type 0
    IsAs label type = Says answers (at label) (field_at type label) true

    abbrev row : Row
    row = first_row wanted refused

    every_in : (what : Option Thing)
        → AllOf (λ type. Says answers what (free_field type) true) wanted
        → IsInCell answers what (record { absent = true; value = row.every })
    every_in None each = refl
    every_in (Some is) each = value_in answers free_field wanted [] is each tt

    pub into_first : ((label : Name) → AllOf (IsAs label) wanted) → IsInRow answers at row
    into_first inside = (
      each_of_map (λ label. (label, cell_at wanted [] label))
          (λ cell. IsInCell answers (at cell.0) cell.1) labels
          (each_of_all (λ label. IsInCell answers (at label) (cell_at wanted [] label))
          (λ label. into_cell answers (λ type. field_at type label) wanted [] (at label)
          (inside label) tt) labels),
      every,
      tt,
    )
      where
        every : (label : Name) → IsOfNoCell row label
            → IsInCell answers (at label) (record { absent = true; value = row.every })
        every label none = every_in (at label)
            (each_of_two (λ type. field_at type label ≡ free_field type) (IsAs label)
            (λ type. Says answers (at label) (free_field type) true)
            (λ type free is. subst (λ field. Says answers (at label) field true) free is) wanted
            (unnamed label
            (λ one. none (one_of_map (λ label. (label, cell_at wanted [] label))
            (λ cell. cell.0 ≡ label) labels one))).0
            (inside label))

    pub out_of_first : IsInRow answers at row → (label : Name) → AllOf (IsAs label) wanted
    out_of_first = wanted_in_row answers at labels wanted (λ label none. (unnamed label none).0) []
