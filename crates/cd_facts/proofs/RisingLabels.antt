-- Items by rising label: what stands at a label, and from it on.
use Rattle.std.proofs.Common.{◌≡◌, ◌∙◌, Bool, true, false, List, [], ◌∷◌, Some, None, bytes_eq, if◌then◌else◌}
use Rattle.std.proofs.Common.{ℕ, zero, suc, ◌+◌, drop, refl, sym, ap, subst}
use Rattle.std.specs.declared.cmp.Ordering.{Ordering}
use Rattle.std.specs.declared.cmp.Ordering.TheVariants.{Less, Equal, Greater}
use Rattle.std.specs.Ordering.{nat_cmp, is_eq, is_lt, ordering_reverse}
use Rattle.std.specs.Cmp.Lexicographic.{slice_cmp}
use Rattle.std.proofs.lemmas.Cmp.{nat_list_cmp_total}
use Rattle.std.proofs.lemmas.Map.Text.{is_eq-slice_cmp}
use Rattle.std.proofs.lemmas.Slice.Eq.{bytes_eq-Decides}
use Rattle.cd_syntax.specs.Name.{Name}
use Rattle.cd_model.specs.AllOf.{AllOf}
use Rattle.cd_model.specs.Formula.{AreRisingLabels}
use Rattle.cd_model.proofs.Ones.{each_weaker}
use Rattle.cd_facts.specs.Inner.Rising.{is_below, item_at, from, first_at}

-- the order of two names
abbrev pub Below : Name → Name → Type 0
Below name label = slice_cmp nat_cmp name label ≡ Less

below_differs : (name label : Name) → Below name label → bytes_eq name label ≡ false
below_differs name label below = sym (is_eq-slice_cmp name label) ∙ ap is_eq below

equal_is : (name label : Name) → slice_cmp nat_cmp name label ≡ Equal → bytes_eq name label ≡ true
equal_is name label equal = sym (is_eq-slice_cmp name label) ∙ ap is_eq equal

above_differs : (name label : Name) → slice_cmp nat_cmp name label ≡ Greater → bytes_eq name label ≡ false
above_differs name label above = sym (is_eq-slice_cmp name label) ∙ ap is_eq above

above_is : (name label : Name) → slice_cmp nat_cmp name label ≡ Greater → Below label name
above_is name label above = nat_list_cmp_total.antisymm label name ∙ ap ordering_reverse above

module _ {X : Type 0} where
  -- labels that rise from one on rise also without it
  rises_alone : (before : Name) (items : List (Name × X)) → AreRisingLabels (Some before) items → AreRisingLabels None items
  rises_alone before [] rise = tt
  rises_alone before (item ∷ items) rise = (rise.0, tt, rise.2)

  all_above : (before : Name) (items : List (Name × X)) → AreRisingLabels (Some before) items
      → AllOf (λ item. Below before item.0) items
  all_above before [] rise = tt
  all_above before (item ∷ items) rise = (
    rise.1,
    each_weaker (λ (other : Name × X). Below item.0 other.0) (λ (other : Name × X). Below before other.0)
        (λ other below. nat_list_cmp_total.trans before item.0 other.0 rise.1 below) items (all_above item.0 items rise.2),
  )

  -- nothing stands at a label below all
  none_before : (label before : Name) (items : List (Name × X)) → AreRisingLabels (Some before) items → Below label before
      → item_at items label ≡ None
  none_before label before [] rise below = refl
  none_before label before (item ∷ items) rise below =
      let less = nat_list_cmp_total.trans label before item.0 below rise.1 in
      rw (above_differs item.0 label (nat_list_cmp_total.antisymm item.0 label ∙ ap ordering_reverse less))
      (none_before label item.0 items rise.2 less)

  -- from a label on they rise
  pub from_rises : (label : Name) (items : List (Name × X)) → AreRisingLabels None items → AreRisingLabels None (from label items)
  from_rises label [] rise = tt
  from_rises label (item ∷ items) rise =
      by_test (is_below item.0 label) (from_rises label items (rises_alone item.0 items rise.2))
    where
      by_test : (test : Bool) → AreRisingLabels None (from label items)
          → AreRisingLabels None (if test then from label items else item ∷ items)
      by_test true later = later
      by_test false later = rise

  -- what stands at a label stands first from it on
  pub first_is : (label : Name) (items : List (Name × X)) → AreRisingLabels None items
      → first_at (from label items) label ≡ item_at items label
  first_is label [] rise = refl
  first_is label (item ∷ items) rise =
      by_order (slice_cmp nat_cmp item.0 label) refl (first_is label items (rises_alone item.0 items rise.2))
    where
      by_order : (order : Ordering) → slice_cmp nat_cmp item.0 label ≡ order
          → first_at (from label items) label ≡ item_at items label
          → first_at (if is_lt order then from label items else item ∷ items) label ≡ item_at (item ∷ items) label
      by_order Less is later = rw (below_differs item.0 label is) later
      by_order Equal is later = rw (equal_is item.0 label is) refl
      by_order Greater is later =
          rw (above_differs item.0 label is) (sym (none_before label item.0 items rise.2 (above_is item.0 label is)))

  -- from a label on stands what stands at each label above it
  pub from_keeps : (low label : Name) (items : List (Name × X)) → Below low label
      → item_at (from low items) label ≡ item_at items label
  from_keeps low label [] below = refl
  from_keeps low label (item ∷ items) below =
      by_order (slice_cmp nat_cmp item.0 low) refl (from_keeps low label items below)
    where
      by_order : (order : Ordering) → slice_cmp nat_cmp item.0 low ≡ order
          → item_at (from low items) label ≡ item_at items label
          → item_at (if is_lt order then from low items else item ∷ items) label ≡ item_at (item ∷ items) label
      by_order Less is later = rw (below_differs item.0 label (nat_list_cmp_total.trans item.0 low label is below)) later
      by_order Equal is later = refl
      by_order Greater is later = refl

  -- each item stands at its label
  pub each_stands : (items : List (Name × X)) → AreRisingLabels None items → AllOf (λ item. item_at items item.0 ≡ Some item.1) items
  each_stands [] rise = tt
  each_stands (item ∷ items) rise = (
    rw ((bytes_eq-Decides item.0 item.0).1 refl) refl,
    others_stand items (all_above item.0 items rise.2) (each_stands items (rises_alone item.0 items rise.2)),
  )
    where
      others_stand : (some : List (Name × X)) → AllOf (λ other. Below item.0 other.0) some
          → AllOf (λ other. item_at items other.0 ≡ Some other.1) some
          → AllOf (λ other. item_at (item ∷ items) other.0 ≡ Some other.1) some
      others_stand [] above stand = tt
      others_stand (other ∷ some) above stand =
          (rw (below_differs item.0 other.0 above.0) stand.0, others_stand some above.1 stand.1)

  -- the first of those that are left, and those above it
  pub left_rise : (items : List (Name × X)) (index : ℕ) → AreRisingLabels None items → AreRisingLabels None (drop index items)
  left_rise items zero rise = rise
  left_rise [] (suc index) rise = tt
  left_rise (item ∷ items) (suc index) rise = left_rise items index (rises_alone item.0 items rise.2)

  pub rest_above : (items : List (Name × X)) (index : ℕ) (item : Name × X) → AreRisingLabels None items
      → drop index items ≡ item ∷ drop (index + 1) items
      → AllOf (λ other. Below item.0 other.0) (drop (index + 1) items)
  rest_above items index item rise is =
      all_above item.0 (drop (index + 1) items) (subst (AreRisingLabels None) is (left_rise items index rise)).2
