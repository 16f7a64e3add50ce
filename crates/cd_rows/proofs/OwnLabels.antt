-- The labels that record types name are found once each, and are labels.
use Rattle.std.proofs.Common.{◌≡◌, Bool, true, false, true≢false, ◌||◌, if◌then◌else◌, List, []}
use Rattle.std.proofs.Common.{◌∷◌, ◌++◌, inl, inr, refl, sym, subst, bytes_eq}
use Rattle.std.specs.List.{list_any}
use Rattle.std.proofs.lemmas.Slice.Eq.{bytes_eq-Decides}
use Rattle.cd_syntax.specs.Name.{Name, IsLabel}
use Rattle.cd_model.specs.AllOf.{AllOf}
use Rattle.cd_model.proofs.Labels.{IsOneOf, names_of}
use Rattle.cd_rules.specs.Clauses.{RecordType}
use Rattle.cd_rules.specs.Rows.{Cell, Row, with_label, labels_after, labels_of}
use Rattle.cd_rules.specs.Members.{HaveLabels}
use Rattle.cd_rules.proofs.Answered.{map_of_each}
use Rattle.cd_rules.proofs.MembersOfRecords.{labels_are}
use Rattle.cd_model.proofs.Ones.{one_of_map, each_of_lists}
use Rattle.cd_rows.specs.RecordRows.{HaveOwnLabels}
use Rattle.cd_rows.proofs.LessRows.{labels_in}
use Rattle.cd_rows.proofs.RefinedRows.{HasThese}

-- no label of these is another one
abbrev AreOwn : List Name → Type 0
AreOwn [] = Unit {0}
AreOwn (name ∷ names) = (IsOneOf names name → ⊥) × AreOwn names

not_found : (label : Name) (labels : List Name) → list_any (bytes_eq label) labels ≡ false
    → IsOneOf labels label → ⊥
not_found label [] none one = one
not_found label (other ∷ labels) none one = by_name (bytes_eq label other)
    (bytes_eq-Decides label other).1 (not_found label labels) none one
  where
    by_name : (same : Bool) → (label ≡ other → same ≡ true)
        → (list_any (bytes_eq label) labels ≡ false → IsOneOf labels label → ⊥)
        → same || list_any (bytes_eq label) labels ≡ false → IsOneOf (other ∷ labels) label → ⊥
    by_name true is further none one = true≢false none
    by_name false is further none (inl same) = true≢false (sym (is (sym same)))
    by_name false is further none (inr later) = further none later

with_own : (label : Name) (labels : List Name) → AreOwn labels → AreOwn (with_label label labels)
with_own label labels own =
    by_any (list_any (bytes_eq label) labels) (not_found label labels)
  where
    by_any : (any : Bool) → (any ≡ false → IsOneOf labels label → ⊥)
        → AreOwn (if any then labels else label ∷ labels)
    by_any true none = own
    by_any false none = (none refl, own)

after_own : (these labels : List Name) → AreOwn labels → AreOwn (labels_after these labels)
after_own [] labels own = own
after_own (label ∷ these) labels own =
    with_own label (labels_after these labels) (after_own these labels own)

types_own : (types : List RecordType) → AreOwn (labels_of types)
types_own [] = tt
types_own (type ∷ types) =
    after_own (names_of type.named) (labels_of types) (types_own types)

cells_own : (cells : List (Name × Cell)) → AreOwn (labels_in cells) → HaveOwnLabels cells
cells_own [] own = tt
cells_own (cell ∷ cells) own = (
  λ one. own.0 (one_of_map (λ other. other.0) (λ name. name ≡ cell.0) cells one),
  cells_own cells own.1,
)

-- so no label has two cells in a row of these labels, and each of them is one
module _ (wanted refused : List RecordType) (row : Row)
    (same : HasThese (labels_of (wanted ++ refused)) row) where
  pub have_own : HaveOwnLabels row.cells
  have_own = cells_own row.cells (subst AreOwn (sym same) (types_own (wanted ++ refused)))

  pub have_labels : HaveLabels wanted → HaveLabels refused
      → AllOf (λ cell. IsLabel cell.0) row.cells
  have_labels these those = map_of_each (λ cell. cell.0) IsLabel row.cells
      (subst (AllOf IsLabel) (sym same) (labels_are (wanted ++ refused)
      (each_of_lists (λ type. AllOf (λ field. IsLabel field.0) type.named) wanted refused these
      those)))
