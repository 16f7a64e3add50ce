-- Which labels record types name, and what they say of the others.
use Rattle.std.proofs.Common.{◌≡◌, Bool, true, false, ◌||◌, if◌then◌else◌, List, [], ◌∷◌, ◌++◌, bytes_eq}
use Rattle.std.proofs.Common.{◌⊎◌, inl, inr, refl, sym, subst}
use Rattle.std.specs.List.{list_any}
use Rattle.std.proofs.lemmas.Bool.{cases_Bool}
use Rattle.std.proofs.lemmas.Slice.Eq.{bytes_eq-Decides}
use Rattle.cd_sets.specs.declared.node_id.NodeId.{NodeId}
use Rattle.cd_syntax.specs.Name.{Name}
use Rattle.cd_model.specs.AllOf.{AllOf}
use Rattle.cd_model.specs.Formula.{Field, field_of}
use Rattle.cd_model.proofs.Labels.{IsOneOf, names_of}
use Rattle.cd_rules.specs.Clauses.{RecordType}
use Rattle.cd_rules.specs.Rows.{field_at, with_label, labels_after, labels_of}

-- what a record type says of the labels that it does not name
abbrev pub free_field : RecordType → Field
free_field type = record { optional = true; type = type.rest }

-- each type says no more of the label than that
abbrev pub IsUnnamed : List RecordType → Name → Type 0
IsUnnamed types label = AllOf (λ type. field_at type label ≡ free_field type) types

-- the second test holds where one of both does, and not the first
passed : (first second : Bool) → first ≡ false → first || second ≡ true → second ≡ true
passed true second fails any = absurd cc
passed false second fails any = any

-- a label that is found equal to one of a list is one of it
found : (label : Name) (labels : List Name) → list_any (bytes_eq label) labels ≡ true → IsOneOf labels label
found label [] any = absurd cc
found label (other ∷ labels) any = by_name (cases_Bool (bytes_eq label other)) (found label labels)
  where
    by_name : (bytes_eq label other ≡ true) ⊎ (bytes_eq label other ≡ false)
        → (list_any (bytes_eq label) labels ≡ true → IsOneOf labels label) → IsOneOf (other ∷ labels) label
    by_name (inl same) later = inl (sym ((bytes_eq-Decides label other).0 same))
    by_name (inr differ) later = inr (later (passed (bytes_eq label other) (list_any (bytes_eq label) labels) differ any))

-- a label that is added is there, and those that were there stay
added : (label : Name) (labels : List Name) (other : Name) → IsOneOf (label ∷ labels) other
    → IsOneOf (with_label label labels) other
added label labels other one = by_any (list_any (bytes_eq label) labels) (found label labels) one
  where
    by_any : (any : Bool) → (any ≡ true → IsOneOf labels label) → IsOneOf (label ∷ labels) other
        → IsOneOf (if any then labels else label ∷ labels) other
    by_any true is (inl same) = subst (λ (name : Name). IsOneOf labels name) same (is refl)
    by_any true is (inr later) = later
    by_any false is one = one

-- labels that are added are there, and those that were there stay
pub kept_after : (these labels : List Name) (label : Name) → IsOneOf labels label
    → IsOneOf (labels_after these labels) label
kept_after [] labels label one = one
kept_after (first ∷ these) labels label one =
    added first (labels_after these labels) label (inr (kept_after these labels label one))

pub added_after : (these labels : List Name) (label : Name) → IsOneOf these label
    → IsOneOf (labels_after these labels) label
added_after [] labels label one = elim one [ ]
added_after (first ∷ these) labels label (inl same) = added first (labels_after these labels) label (inl same)
added_after (first ∷ these) labels label (inr later) =
    added first (labels_after these labels) label (inr (added_after these labels label later))

-- fields name a label, or the label's field is one that may be absent, with a value in the rest
pub named_or_free : (named : List (Name × Field)) (rest : NodeId) (label : Name)
    → IsOneOf (names_of named) label ⊎ (field_of named rest label ≡ record { optional = true; type = rest })
named_or_free [] rest label = inr refl
named_or_free (field ∷ named) rest label = by_name (cases_Bool (bytes_eq field.0 label)) (named_or_free named rest label)
  where
    by_name : (bytes_eq field.0 label ≡ true) ⊎ (bytes_eq field.0 label ≡ false)
        → IsOneOf (names_of named) label ⊎ (field_of named rest label ≡ record { optional = true; type = rest })
        → IsOneOf (names_of (field ∷ named)) label
        ⊎ (field_of (field ∷ named) rest label ≡ record { optional = true; type = rest })
    by_name (inl same) later = inl (inl ((bytes_eq-Decides field.0 label).0 same))
    by_name (inr other) (inl one) = inl (inr one)
    by_name (inr other) (inr free) = inr (rw other free)

-- a label is one of those that record types name, or none of them names it
pub named_or_unnamed : (types : List RecordType) (label : Name) → IsOneOf (labels_of types) label ⊎ IsUnnamed types label
named_or_unnamed [] label = inr tt
named_or_unnamed (type ∷ types) label = by_both (named_or_free type.named type.rest label) (named_or_unnamed types label)
  where
    by_both : IsOneOf (names_of type.named) label ⊎ (field_at type label ≡ free_field type)
        → IsOneOf (labels_of types) label ⊎ IsUnnamed types label
        → IsOneOf (labels_of (type ∷ types)) label ⊎ IsUnnamed (type ∷ types) label
    by_both (inl one) later = inl (added_after (names_of type.named) (labels_of types) label one)
    by_both (inr free) (inl one) = inl (kept_after (names_of type.named) (labels_of types) label one)
    by_both (inr free) (inr unnamed) = inr (free, unnamed)

-- a label that is unnamed by all is unnamed by the first ones and by the others
pub unnamed_parts : (types others : List RecordType) (label : Name)
    → IsUnnamed (types ++ others) label → IsUnnamed types label × IsUnnamed others label
unnamed_parts [] others label unnamed = (tt, unnamed)
unnamed_parts (type ∷ types) others label unnamed =
    let parts = unnamed_parts types others label unnamed.1 in ((unnamed.0, parts.0), parts.1)
