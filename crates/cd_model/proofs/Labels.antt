-- What is decided of each label holds of every label or fails at one, where only finitely many are in question.
use Rattle.std.proofs.Common.{◌≡◌, Bool, true, false, List, [], ◌∷◌, ◌⊎◌, inl, inr, refl, subst, map, bytes_eq}
use Rattle.std.proofs.lemmas.Bool.{cases_Bool}
use Rattle.std.proofs.lemmas.Slice.Eq.{bytes_eq-Decides}
use Rattle.cd_syntax.specs.Name.{Name}
use Rattle.cd_model.specs.AllOf.{AllOf, AnyOf}
use Rattle.cd_model.specs.Types.{FieldOf, field_of}

-- the label is one of these
abbrev pub IsOneOf : List Name → Name → Type 0
IsOneOf names label = AnyOf (λ name. name ≡ label) names

-- the labels that a record type names
abbrev pub names_of : {X : Type 0} → List (Name × FieldOf X) → List Name
names_of named = map (λ field. field.0) named

-- a record type names the label, or says of it that its field may be absent
pub named_or_not : {X : Type 0} (named : List (Name × FieldOf X)) (rest : X) (label : Name)
    → IsOneOf (names_of named) label ⊎ ((field_of named rest label).optional ≡ true)
named_or_not [] rest label = inr refl
named_or_not {X = X} (field ∷ named) rest label = by_name (cases_Bool (bytes_eq field.0 label)) (named_or_not named rest label)
  where
    by_name : (bytes_eq field.0 label ≡ true) ⊎ (bytes_eq field.0 label ≡ false)
        → IsOneOf (names_of named) label ⊎ ((field_of named rest label).optional ≡ true)
        → IsOneOf (names_of (field ∷ named)) label ⊎ ((field_of (field ∷ named) rest label).optional ≡ true)
    by_name (inl same) later = inl (inl ((bytes_eq-Decides field.0 label).0 same))
    by_name (inr other) (inl one) = inl (inr one)
    by_name (inr other) (inr free) = inr (rw other free)

-- what holds of each of these holds of a label that is one of them
at_label : (Holds : Name → Type 0) (names : List Name) (label : Name) → AllOf Holds names → IsOneOf names label → Holds label
at_label Holds [] label each one = elim one [ ]
at_label Holds (name ∷ names) label each (inl same) = subst Holds same each.0
at_label Holds (name ∷ names) label each (inr later) = at_label Holds names label each.1 later

module _ (Fact : Name → Bool → Type 0) (decided : (label : Name) → Fact label true ⊎ Fact label false) where
  -- it holds of each of these labels, or fails at a label
  each_or_fails : (names : List Name) → AllOf (λ label. Fact label true) names ⊎ ((label : Name) × Fact label false)
  each_or_fails [] = inl tt
  each_or_fails (name ∷ names) = elim (decided name) [
    | inr out ↦ inr (name, out)
    | inl is ↦ elim (each_or_fails names) [ inl each ↦ inl (is, each) | inr fails ↦ inr fails ]
  ]

  -- it holds of every label, or fails at one, where it holds of a label that is none of these and none of those
  pub all_or_fails : (these those : List Name)
      → ((label : Name) → IsOneOf these label ⊎ IsOneOf those label ⊎ Fact label true)
      → ((label : Name) → Fact label true) ⊎ ((label : Name) × Fact label false)
  all_or_fails these those others = elim (each_or_fails these) [
    | inr fails ↦ inr fails
    | inl here ↦ elim (each_or_fails those) [ inr fails ↦ inr fails | inl there ↦ inl (everywhere here there) ]
  ]
    where
      everywhere : AllOf (λ label. Fact label true) these → AllOf (λ label. Fact label true) those
          → (label : Name) → Fact label true
      everywhere here there label = elim (others label) [
        | inl one ↦ at_label (λ name. Fact name true) these label here one
        | inr (inl one) ↦ at_label (λ name. Fact name true) those label there one
        | inr (inr is) ↦ is
      ]
