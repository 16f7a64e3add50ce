-- Fields that are sorted by their labels have labels that rise.
use Rattle.std.proofs.Common.{◌≡◌, Option, Some, None, List, [], ◌∷◌, ◌∙◌, ap, refl}
use Rattle.std.specs.Ordering.{nat_cmp, ordering_reverse}
use Rattle.std.specs.Cmp.Lexicographic.{slice_cmp}
use Rattle.std.specs.declared.cmp.Ordering.{Ordering}
use Rattle.std.specs.declared.cmp.Ordering.TheVariants.{Less, Equal, Greater}
use Rattle.std.proofs.lemmas.Cmp.{nat_list_cmp_total}
use Rattle.cd_syntax.specs.Name.{Name, IsLabel}
use Rattle.cd_syntax.specs.Name.{IsAbove}
use Rattle.cd_model.specs.AllOf.{AllOf}
use Rattle.cd_model.specs.Formula.{Field, AreRisingLabels}
use Rattle.cd_resolve.specs.Inner.Leaves.{by_order, inserted, sorted_after, sorted}

-- labels still rise where one more field was put among them
by_order_rises : (before : Option Name) (order : Ordering) (field other : Name × Field)
    (rest later : List (Name × Field))
    → slice_cmp nat_cmp field.0 other.0 ≡ order → IsLabel field.0 → IsAbove before field.0
    → AreRisingLabels before (other ∷ rest)
    → (IsAbove (Some other.0) field.0 → AreRisingLabels (Some other.0) later)
    → AreRisingLabels before (by_order order field other rest later)
by_order_rises before Less field other rest later same label above rising on =
    (label, above, (rising.0, same, rising.2))
by_order_rises before Equal field other rest later same label above rising on = rising
by_order_rises before Greater field other rest later same label above rising on =
    (rising.0, rising.1, on (nat_list_cmp_total.antisymm other.0 field.0 ∙ ap ordering_reverse same))

-- so at any place among fields above a label
inserted_rises : (before : Option Name) (field : Name × Field) (fields : List (Name × Field))
    → IsLabel field.0 → IsAbove before field.0 → AreRisingLabels before fields
    → AreRisingLabels before (inserted field fields)
inserted_rises before field [] label above rising = (label, above, tt)
inserted_rises before field (other ∷ rest) label above rising =
    by_order_rises before (slice_cmp nat_cmp field.0 other.0) field other rest
    (inserted field rest) refl label above rising
    (λ higher. inserted_rises (Some other.0) field rest label higher rising.2)

-- and where several are put among others in turn
sorted_after_rises : (made fields : List (Name × Field)) → AreRisingLabels None made
    → AllOf (λ field. IsLabel field.0) fields
    → AreRisingLabels None (sorted_after made fields)
sorted_after_rises made [] rising labels = rising
sorted_after_rises made (field ∷ rest) rising labels =
    sorted_after_rises (inserted field made) rest (inserted_rises None field made labels.0 tt rising) labels.1

-- labels rise where fields are sorted
pub sorted_rises : (fields : List (Name × Field)) → AllOf (λ field. IsLabel field.0) fields
    → AreRisingLabels None (sorted fields)
sorted_rises fields labels = sorted_after_rises [] fields tt labels
