-- Where no label of a record stands twice, none does in its pattern.
use Rattle.std.proofs.Common.{◌≡◌, ℕ, Bool, true, false, ◌⊎◌, inl, inr, sym, subst, bytes_eq}
use Rattle.std.proofs.lemmas.Bool.{true≢false, or_cases, false_from_ne_true}
use Rattle.cd_syntax.specs.Name.{Name}
use Rattle.cd_syntax.specs.TypeTree.{Tree, Fields, NoField, AField}
use Rattle.cd_model.specs.Scope.{Scope}
use Rattle.cd_matching.specs.Naming.{LabelsDiffer}
use Rattle.cd_matching.specs.Variables.{names_label}
use Rattle.cd_matching.specs.WrittenPattern.{field_patterns}
use Rattle.cd_resolve.specs.Faults as faults
use Rattle.cd_resolve.specs.Faults.{IsField, LabelAgain}
use Rattle.cd_names.proofs.OccurrenceNames.{name_is}

-- a field with this label
record Labelled (label : Name) (fields : Fields) : Type 0 where
  at : ℕ
  is : Tree
  field : IsField label at is fields

module _ (scope : Scope) where
  first_labelled : (label other : Name) (at : ℕ) (optional : Bool) (t : Tree) (rest : Fields)
      → (bytes_eq other label ≡ true) ⊎ (names_label (field_patterns scope rest) label ≡ true)
      → (names_label (field_patterns scope rest) label ≡ true → Labelled label rest)
      → Labelled label (AField other at optional t rest)
  first_labelled label other at optional t rest (inl here) on = record {
    at = at;
    is = t;
    field = subst (λ (l : Name). IsField label at t (AField l at optional t rest))
        (sym (name_is other label here)) (faults.IsField.first label at optional t rest);
  }
  first_labelled label other at optional t rest (inr later) on = let found = on later in record {
    at = found.at;
    is = found.is;
    field = faults.IsField.later label other found.at at optional found.is t rest found.field;
  }

  labelled : (fields : Fields) (label : Name)
      → names_label (field_patterns scope fields) label ≡ true → Labelled label fields
  labelled NoField label h = absurd (true≢false (sym h))
  labelled (AField other at true t rest) label h = first_labelled label other at true t rest
      (or_cases (bytes_eq other label) (names_label (field_patterns scope rest) label) h)
      (labelled rest label)
  labelled (AField other at false t rest) label h = first_labelled label other at false t rest
      (or_cases (bytes_eq other label) (names_label (field_patterns scope rest) label) h)
      (labelled rest label)

  not_again : (label : Name) (at : ℕ) (optional : Bool) (t : Tree) (rest : Fields)
      → ((there : ℕ) → LabelAgain label there (AField label at optional t rest) → ⊥)
      → names_label (field_patterns scope rest) label ≡ false
  not_again label at optional t rest once =
      false_from_ne_true (names_label (field_patterns scope rest) label) (λ h.
      let found = labelled rest label h in once found.at
      (faults.LabelAgain.here label found.at at optional found.is t rest found.field))

  pub labels_once : (fields : Fields)
      → ((label : Name) (at : ℕ) → LabelAgain label at fields → ⊥)
      → LabelsDiffer (field_patterns scope fields)
  labels_once NoField once = tt
  labels_once (AField label at true t rest) once = (
    not_again label at true t rest (once label),
    labels_once rest (λ other there again. once other there
        (faults.LabelAgain.later other label there at true t rest again)),
  )
  labels_once (AField label at false t rest) once = (
    not_again label at false t rest (once label),
    labels_once rest (λ other there again. once other there
        (faults.LabelAgain.later other label there at false t rest again)),
  )
