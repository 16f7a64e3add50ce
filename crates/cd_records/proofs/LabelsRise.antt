-- Labels that are put in their order rise, and are those that were put in.
use Rattle.std.proofs.Common.{◌≡◌, List, [], ◌∷◌, map, Option, Some, None, ◌⊎◌, inl, inr, refl, sym}
use Rattle.std.proofs.Common.{ap, subst, ◌∙◌}
use Rattle.std.proofs.lemmas.Cmp.{nat_list_cmp_total}
use Rattle.std.proofs.lemmas.Map.Text.{is_eq-slice_cmp}
use Rattle.std.specs.Cmp.Lexicographic.{slice_cmp}
use Rattle.std.specs.Ordering.{nat_cmp, ordering_reverse, is_eq}
use Rattle.std.specs.declared.cmp.Ordering.{Ordering}
use Rattle.std.specs.declared.cmp.Ordering.TheVariants.{Less, Equal, Greater}
use Rattle.cd_syntax.specs.Name.{Name, IsLabel, IsAbove}
use Rattle.cd_model.specs.AllOf.{AllOf, AnyOf}
use Rattle.cd_model.specs.Formula.{AreRisingLabels}
use Rattle.cd_model.proofs.Labels.{IsOneOf}
use Rattle.cd_rules.specs.Rows.{Row}
use Rattle.cd_records.specs.Inner.Labels.{AreRising, by_order, inserted, all_inserted, labels_in}
use Rattle.cd_records.specs.Inner.Labels.{row_labels}
use Rattle.cd_records.proofs.Lookups.{same_name}

-- labels still rise with one more
by_order_rises : (before : Option Name) (order : Ordering) (label first : Name)
    (rest later : List Name) → slice_cmp nat_cmp label first ≡ order → IsLabel label
    → IsAbove before label → AreRising before (first ∷ rest)
    → (IsAbove (Some first) label → AreRising (Some first) later)
    → AreRising before (by_order order label first rest later)
by_order_rises before Less label first rest later is is_label above rising on =
    (is_label, above, (rising.0, is, rising.2))
by_order_rises before Equal label first rest later is is_label above rising on = rising
by_order_rises before Greater label first rest later is is_label above rising on = (
  rising.0,
  rising.1,
  on (nat_list_cmp_total.antisymm first label ∙ ap ordering_reverse is),
)

inserted_rises : (before : Option Name) (label : Name) (labels : List Name) → IsLabel label
    → IsAbove before label → AreRising before labels → AreRising before (inserted label labels)
inserted_rises before label [] is_label above rising = (is_label, above, tt)
inserted_rises before label (first ∷ rest) is_label above rising =
    by_order_rises before (slice_cmp nat_cmp label first) label first rest (inserted label rest)
    refl is_label above rising
    (λ higher. inserted_rises (Some first) label rest is_label higher rising.2)

pub one_rises : (label : Name) (labels : List Name) → IsLabel label → AreRising None labels
    → AreRising None (inserted label labels)
one_rises label labels is_label rising = inserted_rises None label labels is_label tt rising

pub all_rise : (new known : List Name) → AllOf IsLabel new → AreRising None known
    → AreRising None (all_inserted new known)
all_rise [] known are rising = rising
all_rise (label ∷ new) known are rising =
    all_rise new (inserted label known) are.1 (one_rises label known are.0 rising)

-- the label is there, and those that were there
by_order_has : (label first : Name) (rest later : List Name) (order : Ordering)
    → slice_cmp nat_cmp label first ≡ order → IsOneOf later label
    → IsOneOf (by_order order label first rest later) label
by_order_has label first rest later Less is on = inl refl
by_order_has label first rest later Equal is on =
    inl (sym (same_name label first (sym (is_eq-slice_cmp label first) ∙ ap is_eq is)))
by_order_has label first rest later Greater is on = inr on

pub has_inserted : (label : Name) (labels : List Name) → IsOneOf (inserted label labels) label
has_inserted label [] = inl refl
has_inserted label (first ∷ rest) = by_order_has label first rest (inserted label rest)
    (slice_cmp nat_cmp label first) refl (has_inserted label rest)

pub still_has : (label : Name) (labels : List Name) (name : Name) → IsOneOf labels name
    → IsOneOf (inserted label labels) name
still_has label [] name one = absurd one
still_has label (first ∷ rest) name one =
    by_test (slice_cmp nat_cmp label first) one (still_has label rest name)
  where
    by_test : (order : Ordering) → IsOneOf (first ∷ rest) name
        → (IsOneOf rest name → IsOneOf (inserted label rest) name)
        → IsOneOf (by_order order label first rest (inserted label rest)) name
    by_test Less one further = inr one
    by_test Equal one further = one
    by_test Greater (inl same) further = inl same
    by_test Greater (inr later) further = inr (further later)

pub all_still : (new known : List Name) (name : Name) → IsOneOf known name
    → IsOneOf (all_inserted new known) name
all_still [] known name one = one
all_still (label ∷ new) known name one =
    all_still new (inserted label known) name (still_has label known name one)

pub has_all : (new known : List Name) (name : Name) → IsOneOf new name
    → IsOneOf (all_inserted new known) name
has_all [] known name one = absurd one
has_all (label ∷ new) known name (inl same) =
    subst (IsOneOf (all_inserted new (inserted label known))) same
    (all_still new (inserted label known) label (has_inserted label known))
has_all (label ∷ new) known name (inr later) = has_all new (inserted label known) name later

-- and no others
pub no_others : (label : Name) (labels : List Name) (name : Name)
    → IsOneOf (inserted label labels) name → (label ≡ name) ⊎ IsOneOf labels name
no_others label [] name (inl same) = inl same
no_others label [] name (inr none) = absurd none
no_others label (first ∷ rest) name one =
    by_test (slice_cmp nat_cmp label first) one (no_others label rest name)
  where
    in_front : (label ≡ name) ⊎ IsOneOf rest name → (label ≡ name) ⊎ IsOneOf (first ∷ rest) name
    in_front (inl same) = inl same
    in_front (inr later) = inr (inr later)

    by_test : (order : Ordering)
        → IsOneOf (by_order order label first rest (inserted label rest)) name
        → (IsOneOf (inserted label rest) name → (label ≡ name) ⊎ IsOneOf rest name)
        → (label ≡ name) ⊎ IsOneOf (first ∷ rest) name
    by_test Less (inl same) further = inl same
    by_test Less (inr later) further = inr later
    by_test Equal one further = inr one
    by_test Greater (inl same) further = inr (inl same)
    by_test Greater (inr later) further = in_front (further later)

pub among_either : (new known : List Name) (name : Name) → IsOneOf (all_inserted new known) name
    → IsOneOf new name ⊎ IsOneOf known name
among_either [] known name one = inr one
among_either (label ∷ new) known name one =
    by_side (among_either new (inserted label known) name one)
  where
    of_first : (label ≡ name) ⊎ IsOneOf known name → IsOneOf (label ∷ new) name ⊎ IsOneOf known name
    of_first (inl same) = inl (inl same)
    of_first (inr one) = inr one

    by_side : IsOneOf new name ⊎ IsOneOf (inserted label known) name
        → IsOneOf (label ∷ new) name ⊎ IsOneOf known name
    by_side (inl later) = inl (inr later)
    by_side (inr one) = of_first (no_others label known name one)

-- the labels of rows
abbrev HaveLabels : Row → Type 0
HaveLabels row = AllOf IsLabel (labels_in row.cells)

pub rows_rise : (rows : List Row) (known : List Name) → AllOf HaveLabels rows
    → AreRising None known → AreRising None (row_labels rows known)
rows_rise [] known are rising = rising
rows_rise (row ∷ rows) known are rising = rows_rise rows
    (all_inserted (labels_in row.cells) known) are.1
    (all_rise (labels_in row.cells) known are.0 rising)

pub rows_still : (rows : List Row) (known : List Name) (name : Name) → IsOneOf known name
    → IsOneOf (row_labels rows known) name
rows_still [] known name one = one
rows_still (row ∷ rows) known name one = rows_still rows
    (all_inserted (labels_in row.cells) known) name
    (all_still (labels_in row.cells) known name one)

pub rows_have : (rows : List Row) (known : List Name) (name : Name)
    → AnyOf (λ row. IsOneOf (labels_in row.cells) name) rows
    → IsOneOf (row_labels rows known) name
rows_have [] known name one = absurd one
rows_have (row ∷ rows) known name (inl one) = rows_still rows
    (all_inserted (labels_in row.cells) known) name
    (has_all (labels_in row.cells) known name one)
rows_have (row ∷ rows) known name (inr later) = rows_have rows
    (all_inserted (labels_in row.cells) known) name later

-- fields of rising labels rise
pub fields_rise : {X : Type 0} (before : Option Name) (named : List (Name × X))
    → AreRising before (map (λ field. field.0) named) → AreRisingLabels before named
fields_rise before [] rising = tt
fields_rise before (field ∷ named) rising =
    (rising.0, rising.1, fields_rise (Some field.0) named rising.2)
