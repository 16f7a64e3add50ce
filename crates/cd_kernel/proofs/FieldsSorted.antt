-- Fields that are put in the order of their labels are the same fields, and their labels rise where
-- they differ.
use Rattle.std.proofs.Common.{ℕ, take, drop, ap₂}
use Rattle.std.proofs.lemmas.List.{map-append, take-map, drop-map}
use Rattle.std.proofs.Common.{◌≡◌, List, [], ◌∷◌, ◌++◌, None, ap, refl}
use Rattle.std.proofs.Common.{sym, subst, ◌∙◌}
use Rattle.std.specs.Ordering.{nat_cmp}
use Rattle.std.specs.Cmp.Lexicographic.{slice_cmp}
use Rattle.std.specs.declared.cmp.Ordering.{Ordering}
use Rattle.std.specs.declared.cmp.Ordering.TheVariants.{Less, Equal, Greater}
use Rattle.cd_sets.specs.declared.node_id.NodeId.{NodeId}
use Rattle.cd_syntax.specs.Name.{Name, IsLabel}
use Rattle.cd_model.specs.AllOf.{AllOf}
use Rattle.cd_model.specs.SortedFields.{by_order, inserted}
use Rattle.cd_model.proofs.InsertedFields.{Differs, inserted_rises, inserted_keeps}
use Rattle.cd_model.specs.Formula.{AreRisingLabels}
use Rattle.cd_matching.specs.Kernel.{KernelField}
use Rattle.cd_matching.specs.PlainKernel.{plain_kernel_field}
use Rattle.cd_matching.specs.declared.kernel.KernelField.{KernelField as CodeField}
use Rattle.cd_kernel.specs.Making.{IsReordered}
use Rattle.cd_kernel.specs.Inner.Building.{KernelFields, sorted_over}
use Rattle.cd_kernel.specs.Inner.PlainSteps.{plain_kernel_fields}

abbrev Field : Type 0
Field = Name × KernelField NodeId

pub one_back : (fields : List CodeField) (field : CodeField) (sorted : KernelFields)
    → sorted_over (plain_kernel_fields (fields ++ field ∷ [])) sorted
    ≡ sorted_over (plain_kernel_fields fields) (inserted (plain_kernel_field field) sorted)
one_back [] field sorted = refl
one_back (first ∷ fields) field sorted =
    ap (inserted (plain_kernel_field first)) (one_back fields field sorted)

pub map_inserted : (fields : List CodeField) (index : ℕ) (field : CodeField)
    → plain_kernel_fields (take index fields ++ field ∷ drop index fields)
    ≡ take index (plain_kernel_fields fields)
    ++ plain_kernel_field field ∷ drop index (plain_kernel_fields fields)
map_inserted fields index field =
    map-append plain_kernel_field (take index fields) (field ∷ drop index fields)
    ∙ ap₂ (λ (before after : KernelFields). before ++ plain_kernel_field field ∷ after)
    (sym (take-map plain_kernel_field index fields))
    (sym (drop-map plain_kernel_field index fields))

stands_among : (field : Field) (fields : KernelFields)
    → (before after : KernelFields) × (inserted field fields ≡ before ++ field ∷ after)
    × (before ++ after ≡ fields)
stands_among field [] = ([], [], refl, refl)
stands_among field (other ∷ rest) =
    by_test (slice_cmp nat_cmp field.0 other.0) (stands_among field rest)
  where
    later : (before after : KernelFields) × (inserted field rest ≡ before ++ field ∷ after)
        × (before ++ after ≡ rest)
        → (before after : KernelFields)
        × ((other ∷ inserted field rest) ≡ before ++ field ∷ after)
        × (before ++ after ≡ other ∷ rest)
    later on = (other ∷ on.0, on.1, ap (other ∷◌) on.2, ap (other ∷◌) on.3)

    by_test : (order : Ordering)
        → (before after : KernelFields) × (inserted field rest ≡ before ++ field ∷ after)
        × (before ++ after ≡ rest)
        → (before after : KernelFields)
        × (by_order order field other rest (inserted field rest) ≡ before ++ field ∷ after)
        × (before ++ after ≡ other ∷ rest)
    by_test Less on = ([], other ∷ rest, refl, refl)
    by_test Equal on = later on
    by_test Greater on = later on

pub sorted_are_all : (fields : KernelFields) → IsReordered fields (sorted_over fields [])
sorted_are_all [] = refl
sorted_are_all (field ∷ rest) =
    let at = stands_among field (sorted_over rest []) in
    (at.0, at.1, at.2, subst (IsReordered rest) (sym at.3) (sorted_are_all rest))

-- what holds of each field holds of each where they are in order
sorted_keeps : (fact : Field → Type 0) (fields : KernelFields) → AllOf fact fields
    → AllOf fact (sorted_over fields [])
sorted_keeps fact [] all = tt
sorted_keeps fact (field ∷ rest) all =
    inserted_keeps fact field (sorted_over rest []) all.0 (sorted_keeps fact rest all.1)

-- labels are labels, and differ
abbrev pub AreLabelled : KernelFields → Type 0
AreLabelled [] = Unit {0}
AreLabelled (field ∷ rest) = IsLabel field.0 × AllOf (Differs field) rest × AreLabelled rest

pub sorted_rise : (fields : KernelFields) → AreLabelled fields
    → AreRisingLabels None (sorted_over fields [])
sorted_rise [] labels = tt
sorted_rise (field ∷ rest) labels = inserted_rises None field (sorted_over rest [])
    (sorted_keeps (Differs field) rest labels.1) labels.0 tt (sorted_rise rest labels.2)
