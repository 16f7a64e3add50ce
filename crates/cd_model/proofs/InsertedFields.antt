-- A field that is put among fields in the order of their labels: these rise, where its label is
-- another one than theirs.
use Rattle.std.proofs.Common.{◌≡◌, false, List, [], ◌∷◌, Option, Some, ap, refl, sym, ◌∙◌, bytes_eq}
use Rattle.std.proofs.lemmas.Bool.{true≢false}
use Rattle.std.proofs.lemmas.Cmp.{nat_list_cmp_total}
use Rattle.std.proofs.lemmas.Map.Text.{is_eq-slice_cmp}
use Rattle.std.specs.Ordering.{nat_cmp, ordering_reverse, is_eq}
use Rattle.std.specs.Cmp.Lexicographic.{slice_cmp}
use Rattle.std.specs.declared.cmp.Ordering.{Ordering}
use Rattle.std.specs.declared.cmp.Ordering.TheVariants.{Less, Equal, Greater}
use Rattle.cd_syntax.specs.Name.{Name, IsLabel, IsAbove}
use Rattle.cd_model.specs.AllOf.{AllOf}
use Rattle.cd_model.specs.Formula.{AreRisingLabels}
use Rattle.cd_model.specs.SortedFields.{by_order, inserted}

module _ {X : Type 0} where
  abbrev pub Differs : Name × X → Name × X → Type 0
  Differs field other = bytes_eq field.0 other.0 ≡ false

  -- a field stands before a field whose label is above its own
  pub stands_before : (field other : Name × X) (rest : List (Name × X))
      → slice_cmp nat_cmp field.0 other.0 ≡ Less
      → inserted field (other ∷ rest) ≡ field ∷ other ∷ rest
  stands_before field other rest less =
      ap (λ order. by_order order field other rest (inserted field rest)) less

  -- labels still rise where a field with another label is put among them
  by_order_rises : (before : Option Name) (order : Ordering) (field other : Name × X)
      (rest later : List (Name × X))
      → slice_cmp nat_cmp field.0 other.0 ≡ order → Differs field other → IsLabel field.0
      → IsAbove before field.0 → AreRisingLabels before (other ∷ rest)
      → (IsAbove (Some other.0) field.0 → AreRisingLabels (Some other.0) later)
      → AreRisingLabels before (by_order order field other rest later)
  by_order_rises before Less field other rest later same differs label above rising on =
      (label, above, (rising.0, same, rising.2))
  by_order_rises before Equal field other rest later same differs label above rising on =
      absurd (true≢false (sym (ap is_eq same) ∙ is_eq-slice_cmp field.0 other.0 ∙ differs))
  by_order_rises before Greater field other rest later same differs label above rising on = (
    rising.0,
    rising.1,
    on (nat_list_cmp_total.antisymm other.0 field.0 ∙ ap ordering_reverse same),
  )

  pub inserted_rises : (before : Option Name) (field : Name × X) (fields : List (Name × X))
      → AllOf (Differs field) fields → IsLabel field.0 → IsAbove before field.0
      → AreRisingLabels before fields → AreRisingLabels before (inserted field fields)
  inserted_rises before field [] differs label above rising = (label, above, tt)
  inserted_rises before field (other ∷ rest) differs label above rising =
      by_order_rises before (slice_cmp nat_cmp field.0 other.0) field other rest
      (inserted field rest) refl differs.0 label above rising
      (λ higher. inserted_rises (Some other.0) field rest differs.1 label higher rising.2)

  -- what holds of each field holds of each where one more is among them
  pub inserted_keeps : (fact : Name × X → Type 0) (field : Name × X) (fields : List (Name × X))
      → fact field → AllOf fact fields → AllOf fact (inserted field fields)
  inserted_keeps fact field [] one all = (one, tt)
  inserted_keeps fact field (other ∷ rest) one all =
      by_test (slice_cmp nat_cmp field.0 other.0) (inserted_keeps fact field rest one all.1)
    where
      by_test : (order : Ordering) → AllOf fact (inserted field rest)
          → AllOf fact (by_order order field other rest (inserted field rest))
      by_test Less on = (one, all)
      by_test Equal on = (all.0, on)
      by_test Greater on = (all.0, on)
