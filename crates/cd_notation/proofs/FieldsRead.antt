-- Fields that a sort puts in order are those that were read.
use Rattle.std.proofs.Common.{◌≡◌, ◌∙◌, ℕ, Bool, true, false, List, [], ◌∷◌, ◌++◌, length, reverse, refl, sym, ap, ap₂, Some, None, if◌then◌else◌}
use Rattle.std.specs.List.{AllByRecursion}
use Rattle.std.specs.List.Sorted.{IsPermutation, IsSortedBy}
use Rattle.std.specs.Ordering.{nat_cmp, is_lt}
use Rattle.std.specs.Cmp.Lexicographic.{slice_cmp}
use Rattle.std.proofs.lemmas.List.{length-map, length-reverse}
use mathlib.Core.List.{reverse-cons}
use Rattle.cd_syntax.specs.Name.{Name}
use Rattle.cd_model.specs.AllOf.{AllOf}
use Rattle.cd_model.specs.Thing.{Thing, Fields, NoField, Field, LabelsRise}
use Rattle.cd_documents.specs.Document.{with_field}
use Rattle.cd_documents.specs.Machine.{with_fields}
use Rattle.cd_cells.specs.declared.cell.Part.{Part}
use Rattle.cd_cells.specs.Cells.{name_at, thing_at, fields_of, HasEachOnce, IsPart}
use Rattle.cd_notation.specs.Open.{names_of, values_of, fields_read, LabelsDiffer}
use Rattle.cd_notation.proofs.Rising.{Below, Rise, Differ, put, ordered, lower, sorted_rises, sorted_is}
use Rattle.cd_notation.proofs.Different.{still_differ, names_differ, parts_moved}

-- the last field that is inserted
inserted : (labels : List Name) (values : List Thing) (label : Name) (value : Thing) (rest : Fields) → length labels ≡ length values
    → with_fields (labels ++ label ∷ []) (values ++ value ∷ []) rest ≡ with_field label value (with_fields labels values rest)
inserted [] [] label value rest same = refl
inserted [] (other ∷ values) label value rest same = cc
inserted (name ∷ labels) [] label value rest same = cc
inserted (name ∷ labels) (other ∷ values) label value rest same =
    inserted labels values label value (with_field name other rest) (cc)

module _ (names : List Name) (table : List Thing) where
  abbrev pub name : Part → Name
  name part = name_at names part.label

  put_is : (part : Part) (parts : List Part)
      → fields_of names table (put name part parts) ≡ with_field (name part) (thing_at table part.value) (fields_of names table parts)
  put_is part [] = refl
  put_is part (other ∷ parts) = by_test (is_lt (slice_cmp nat_cmp (name part) (name other))) (put_is part parts)
    where
      by_test : (test : Bool)
          → fields_of names table (put name part parts) ≡ with_field (name part) (thing_at table part.value) (fields_of names table parts)
          → fields_of names table (if test then part ∷ other ∷ parts else other ∷ put name part parts)
          ≡ (if test then Field (name part) (thing_at table part.value) (fields_of names table (other ∷ parts))
          else Field (name other) (thing_at table other.value) (with_field (name part) (thing_at table part.value) (fields_of names table parts)))
      by_test true later = refl
      by_test false later = ap (Field (name other) (thing_at table other.value)) later

  ordered_is : (parts : List Part) → fields_of names table (ordered name parts) ≡ fields_read names table parts
  ordered_is [] = refl
  ordered_is (part ∷ parts) =
      let labels = names_of names parts in
      let values = values_of table parts in
      put_is part (ordered name parts)
      ∙ ap (with_field (name part) (thing_at table part.value)) (ordered_is parts)
      ∙ sym (inserted (reverse labels) (reverse values) (name part) (thing_at table part.value) NoField
      (length-reverse labels ∙ length-map parts (λ (one : Part). name_at names one.label)
      ∙ sym (length-reverse values ∙ length-map parts (λ (one : Part). thing_at table one.value))))
      ∙ sym (ap₂ (λ one other. with_fields one other NoField) (reverse-cons (name part) labels) (reverse-cons (thing_at table part.value) values))

  rise_after : (part : Part) (parts : List Part) → AllByRecursion (Below name part) parts → Rise name parts
      → LabelsRise (Some (name part)) (fields_of names table parts)
  rise_after part [] above rise = tt
  rise_after part (other ∷ parts) above rise = (above.0, rise_after other parts rise.0 rise.1)

  labels_rise : (parts : List Part) → Rise name parts → LabelsRise None (fields_of names table parts)
  labels_rise [] rise = tt
  labels_rise (part ∷ parts) rise = (tt, rise_after part parts rise.0 rise.1)

  module _ (once : HasEachOnce names) (bound : ℕ) (parts sorted : List Part) (are : AllOf (IsPart names bound) parts)
      (differ : LabelsDiffer parts) (same : IsPermutation parts sorted) (in_order : IsSortedBy (lower name) sorted) where
    still : Differ name sorted
    still = names_differ names once bound sorted (parts_moved names bound parts sorted same are) (still_differ parts sorted same differ)

    pub sorted_fields : fields_of names table sorted ≡ fields_read names table parts
    sorted_fields =
        ap (fields_of names table) (sorted_is name parts sorted (names_differ names once bound parts are differ) still same in_order)
        ∙ ordered_is parts

    pub sorted_labels_rise : LabelsRise None (fields_of names table sorted)
    sorted_labels_rise = labels_rise sorted (sorted_rises name sorted still in_order)
