-- Where a label is open last says whether it is open from some place on.
use Rattle.std.proofs.Common.{◌≡◌, ◌∙◌, ℕ, suc, ◌<◌, ◌≤◌, ◌==◌, Bool, true, false, ◌||◌, List, [], ◌∷◌, ◌++◌, length, map, reverse, drop}
use Rattle.std.proofs.Common.{nat_lt, refl, sym, ap, subst, arith, inl, inr, if◌then◌else◌, slice_index_or}
use Rattle.std.proofs.lemmas.Bool.{cases_Bool}
use Rattle.std.proofs.lemmas.Bool.Decides.{nat_tests}
use Rattle.std.proofs.lemmas.List.{drop-append-le, map-append, reverse-reverse, reverse-append, length-map, length-reverse, length_push, get_or_past}
use Rattle.std.proofs.Math.ListN.{drop_of_length-le}
use mathlib.Core.List.{reverse-cons}
use Rattle.std.proofs.lemmas.List.Folds.{list_any-append}
use Rattle.cd_notation.specs.declared.open_label.OpenLabel.{OpenLabel}
use Rattle.cd_notation.specs.Open.{is_label_of}
use Rattle.cd_notation.specs.Inner.Ends.{end_of, AreEnds}

at_most : (label : ℕ) (before : List OpenLabel) → end_of label before ≤ length before
at_most label [] = omega arith
at_most label (one ∷ before) =
    let later = at_most label before in
    by_test (label == one.label) later
  where
    by_test : (same : Bool) → end_of label before ≤ length before
        → (if same then suc (length before) else end_of label before) ≤ suc (length before)
    by_test true later = omega arith
    by_test false later = omega arith

module _ (label : ℕ) where
  -- one more label at the end
  one_more : (from : ℕ) (labels : List ℕ) (last end : ℕ) → end ≤ length labels → is_label_of label (drop from labels) ≡ nat_lt from end
      → is_label_of label (drop from (labels ++ last ∷ [])) ≡ nat_lt from (if label == last then suc (length labels) else end)
  one_more from labels last end bound is =
      elim (cases_Bool (nat_lt (length labels) from)) [
        | inl past ↦
            ap (is_label_of label) (drop_of_length-le (labels ++ last ∷ []) (beyond past))
            ∙ none (label == last) past
        | inr within ↦
            ap (is_label_of label) (drop-append-le from labels (last ∷ []) (within_is within))
            ∙ list_any-append (λ other. label == other) (drop from labels) (last ∷ [])
            ∙ ap (λ b. b || ((label == last) || false)) is
            ∙ some (label == last) within
      ]
    where
      beyond : nat_lt (length labels) from ≡ true → length (labels ++ last ∷ []) ≤ from
      beyond past = grind (arith, nat_tests, length_push labels last)

      within_is : nat_lt (length labels) from ≡ false → from ≤ length labels
      within_is within = grind (arith, nat_tests)

      none : (same : Bool) → nat_lt (length labels) from ≡ true → false ≡ nat_lt from (if same then suc (length labels) else end)
      none true past = grind (arith, nat_tests)
      none false past = grind (arith, nat_tests)

      some : (same : Bool) → nat_lt (length labels) from ≡ false
          → (nat_lt from end || (same || false)) ≡ nat_lt from (if same then suc (length labels) else end)
      some true within = grind (arith, nat_tests)
      some false within = grind (arith, nat_tests)

  back : (from : ℕ) (before : List OpenLabel)
      → is_label_of label (drop from (map (λ one. one.label) (reverse before))) ≡ nat_lt from (end_of label before)
  back from [] = ap (is_label_of label) (drop_of_length-le [] (omega arith)) ∙ grind (arith, nat_tests)
  back from (one ∷ before) =
      let labels = map (λ (other : OpenLabel). other.label) (reverse before) in
      let long : length labels ≡ length before = length-map (reverse before) (λ (other : OpenLabel). other.label) ∙ length-reverse before in
      ap (λ l. is_label_of label (drop from l))
      (ap (map (λ (other : OpenLabel). other.label)) (reverse-cons one before) ∙ map-append (λ (other : OpenLabel). other.label) (reverse before) (one ∷ []))
      ∙ one_more from labels one.label (end_of label before) (subst (λ n. end_of label before ≤ n) (sym long) (at_most label before)) (back from before)
      ∙ ap (λ n. nat_lt from (if label == one.label then suc n else end_of label before)) long

  pub is_open_from : (from : ℕ) (labels : List OpenLabel)
      → is_label_of label (drop from (map (λ one. one.label) labels)) ≡ nat_lt from (end_of label (reverse labels))
  is_open_from from labels =
      ap (λ l. is_label_of label (drop from (map (λ (other : OpenLabel). other.label) l))) (sym (reverse-reverse labels)) ∙ back from (reverse labels)

-- a label that is open has its end among the ends
pub is_within : (ends : List ℕ) (label end : ℕ) → slice_index_or ends label 0 ≡ suc end → label < length ends
is_within ends label end is =
    elim (cases_Bool (nat_lt label (length ends))) [
      | inl within ↦ grind (arith, nat_tests)
      | inr past ↦
          let nothing = get_or_past ends label 0 (grind (arith, nat_tests)) in
          absurd (omega arith)
    ]

-- the last label has its end among the ends
pub last_within : (before : List OpenLabel) (last : OpenLabel) (labels : List OpenLabel) (ends : List ℕ)
    → labels ≡ before ++ last ∷ [] → AreEnds labels ends → last.label < length ends
last_within before last labels ends is are =
    let turned = ap reverse is ∙ reverse-append before (last ∷ []) in
    is_within ends last.label (length (reverse before))
    (are.0 last.label ∙ ap (end_of last.label) turned ∙ if_true (same last.label) (suc (length (reverse before))) (end_of last.label (reverse before)))
  where
    same : (n : ℕ) → (n == n) ≡ true
    same n = grind (arith, nat_tests)

    if_true : {b : Bool} → b ≡ true → (x y : ℕ) → (if b then x else y) ≡ x
    if_true is x y = rw is refl
