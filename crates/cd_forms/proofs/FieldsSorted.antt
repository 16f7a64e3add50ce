-- Fields whose labels differ, put in the order of their labels: the labels rise, and at each label
-- the fields say what they said.
use Rattle.std.proofs.Common.{◌≡◌, true, false, Bool, List, [], ◌∷◌, None, ap, refl}
use Rattle.std.proofs.Common.{sym, ◌∙◌, bytes_eq, if◌then◌else◌}
use Rattle.std.proofs.lemmas.Bool.{true≢false}
use Rattle.std.proofs.lemmas.Slice.Eq.{bytes_eq-Decides}
use Rattle.std.specs.Ordering.{nat_cmp}
use Rattle.std.specs.Cmp.Lexicographic.{slice_cmp}
use Rattle.std.specs.declared.cmp.Ordering.{Ordering}
use Rattle.std.specs.declared.cmp.Ordering.TheVariants.{Less, Equal, Greater}
use Rattle.cd_syntax.specs.Name.{Name, IsLabel}
use Rattle.cd_model.specs.AllOf.{AllOf}
use Rattle.cd_model.specs.Formula.{AreRisingLabels}
use Rattle.cd_model.specs.Types.{FieldOf, field_of}
use Rattle.cd_model.proofs.Ones.{each_of_two}
use Rattle.cd_model.specs.SortedFields.{by_order, inserted}
use Rattle.cd_model.proofs.InsertedFields.{Differs, inserted_rises, inserted_keeps}
use Rattle.cd_forms.specs.Inner.Sorting.{sorted_over}

module _ {X : Type 0} where
  -- labels that differ
  abbrev pub Differ : List (Name × X) → Type 0
  Differ [] = Unit {0}
  Differ (field ∷ fields) = AllOf (Differs field) fields × Differ fields

  turned : (field other : Name × X) → Differs field other → Differs other field
  turned field other differs = by_test (bytes_eq other.0 field.0) refl
    where
      by_test : (same : Bool) → bytes_eq other.0 field.0 ≡ same → same ≡ false
      by_test true is = absurd (true≢false (sym ((bytes_eq-Decides field.0 other.0).1
          (sym ((bytes_eq-Decides other.0 field.0).0 is))) ∙ differs))
      by_test false is = refl

  -- what holds of each field holds of each where they are in order
  pub sorted_keeps : (fact : Name × X → Type 0) (sorted fields : List (Name × X))
      → AllOf fact sorted → AllOf fact fields → AllOf fact (sorted_over sorted fields)
  sorted_keeps fact sorted [] all others = all
  sorted_keeps fact sorted (field ∷ fields) all others =
      sorted_keeps fact (inserted field sorted) fields
      (inserted_keeps fact field sorted others.0 all) others.1

  -- fields that are left differ from all that are in order
  abbrev AllDiffer : (sorted fields : List (Name × X)) → Type 0
  AllDiffer sorted = AllOf (λ field. AllOf (Differs field) sorted)

  still_differ : (sorted fields : List (Name × X)) (field : Name × X)
      → AllOf (Differs field) fields → AllDiffer sorted fields
      → AllDiffer (inserted field sorted) fields
  still_differ sorted fields field differs all = each_of_two (Differs field)
      (λ other. AllOf (Differs other) sorted)
      (λ other. AllOf (Differs other) (inserted field sorted))
      (λ other apart others. inserted_keeps (Differs other) field sorted
      (turned field other apart) others) fields differs all

  rise_over : (sorted fields : List (Name × X)) → AreRisingLabels None sorted
      → AllOf (λ field. IsLabel field.0) fields → Differ fields → AllDiffer sorted fields
      → AreRisingLabels None (sorted_over sorted fields)
  rise_over sorted [] rising labels differ all = rising
  rise_over sorted (field ∷ fields) rising labels differ all =
      rise_over (inserted field sorted) fields
      (inserted_rises None field sorted all.0 labels.0 tt rising) labels.1 differ.1
      (still_differ sorted fields field differ.0 all.1)

  none_differ : (fields : List (Name × X)) → AllDiffer [] fields
  none_differ [] = tt
  none_differ (field ∷ fields) = (tt, none_differ fields)

  pub sorted_rise : (fields : List (Name × X)) → AllOf (λ field. IsLabel field.0) fields
      → Differ fields → AreRisingLabels None (sorted_over [] fields)
  sorted_rise fields labels differ = rise_over [] fields tt labels differ (none_differ fields)

-- what fields say at a label
module _ {T : Type 0} (rest : T) (label : Name) where
  abbrev Field : Type 0
  Field = Name × FieldOf T

  abbrev Says : List Field → FieldOf T
  Says named = field_of named rest label

  abbrev chosen : Bool → FieldOf T → FieldOf T → FieldOf T
  chosen b one other = if b then one else other

  -- one that is inserted says it first, where others have other labels
  passed_over : (a b : Bool) (one other last : FieldOf T) → (a ≡ true → b ≡ true → ⊥)
      → chosen b other (chosen a one last) ≡ chosen a one (chosen b other last)
  passed_over true true one other last apart = absurd (apart refl refl)
  passed_over true false one other last apart = refl
  passed_over false true one other last apart = refl
  passed_over false false one other last apart = refl

  both_labels : (field other : Field) → Differs field other → bytes_eq field.0 label ≡ true
      → bytes_eq other.0 label ≡ true → ⊥
  both_labels field other differs one two = true≢false
      (sym ((bytes_eq-Decides field.0 other.0).1
      ((bytes_eq-Decides field.0 label).0 one ∙ sym ((bytes_eq-Decides other.0 label).0 two)))
      ∙ differs)

  inserted_says : (field : Field) (fields : List Field) → AllOf (Differs field) fields
      → Says (inserted field fields) ≡ chosen (bytes_eq field.0 label) field.1 (Says fields)
  inserted_says field [] differs = refl
  inserted_says field (other ∷ fields) differs =
      by_test (slice_cmp nat_cmp field.0 other.0) (inserted_says field fields differs.1)
    where
      further : Says (inserted field fields)
          ≡ chosen (bytes_eq field.0 label) field.1 (Says fields)
          → chosen (bytes_eq other.0 label) other.1 (Says (inserted field fields))
          ≡ chosen (bytes_eq field.0 label) field.1
          (chosen (bytes_eq other.0 label) other.1 (Says fields))
      further on = ap (chosen (bytes_eq other.0 label) other.1) on
          ∙ passed_over (bytes_eq field.0 label) (bytes_eq other.0 label) field.1 other.1
          (Says fields) (both_labels field other differs.0)

      by_test : (order : Ordering) → Says (inserted field fields)
          ≡ chosen (bytes_eq field.0 label) field.1 (Says fields)
          → Says (by_order order field other fields (inserted field fields))
          ≡ chosen (bytes_eq field.0 label) field.1 (Says (other ∷ fields))
      by_test Less on = refl
      by_test Equal on = further on
      by_test Greater on = further on

  -- the first of fields of this label, or what is said else
  abbrev Found : List Field → FieldOf T → FieldOf T
  Found [] last = last
  Found (field ∷ fields) last = chosen (bytes_eq field.0 label) field.1 (Found fields last)

  found_last : (field : Field) (fields : List Field) (last : FieldOf T)
      → AllOf (Differs field) fields → bytes_eq field.0 label ≡ true → Found fields last ≡ last
  found_last field [] last differs same = refl
  found_last field (other ∷ fields) last differs same =
      by_test (bytes_eq other.0 label) refl (found_last field fields last differs.1 same)
    where
      by_test : (b : Bool) → bytes_eq other.0 label ≡ b → Found fields last ≡ last
          → chosen b other.1 (Found fields last) ≡ last
      by_test true is on = absurd (both_labels field other differs.0 same is)
      by_test false is on = on

  found_first : (field : Field) (fields : List Field) (last : FieldOf T)
      → AllOf (Differs field) fields
      → Found fields (chosen (bytes_eq field.0 label) field.1 last)
      ≡ chosen (bytes_eq field.0 label) field.1 (Found fields last)
  found_first field fields last differs = by_test (bytes_eq field.0 label) refl
    where
      by_test : (b : Bool) → bytes_eq field.0 label ≡ b
          → Found fields (chosen b field.1 last) ≡ chosen b field.1 (Found fields last)
      by_test true is = found_last field fields field.1 differs is
      by_test false is = refl

  says_over : (sorted fields : List Field) → Differ fields
      → AllOf (λ field. AllOf (Differs field) sorted) fields
      → Says (sorted_over sorted fields) ≡ Found fields (Says sorted)
  says_over sorted [] differ all = refl
  says_over sorted (field ∷ fields) differ all =
      says_over (inserted field sorted) fields differ.1
      (still_differ sorted fields field differ.0 all.1)
      ∙ ap (Found fields) (inserted_says field sorted all.0)
      ∙ found_first field fields (Says sorted) differ.0

  found_is : (fields : List Field) → Found fields (Says []) ≡ Says fields
  found_is [] = refl
  found_is (field ∷ fields) = ap (chosen (bytes_eq field.0 label) field.1) (found_is fields)

  pub sorted_says : (fields : List Field) → Differ fields
      → field_of (sorted_over [] fields) rest label ≡ field_of fields rest label
  sorted_says fields differ = says_over [] fields differ (none_differ fields) ∙ found_is fields
