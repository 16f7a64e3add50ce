-- The labels and the items of a form are taken off as parts.
use Rattle.std.proofs.Common.{◌≡◌, ◌∙◌, ap, sym, refl, arith, ℕ, ◌<◌, ◌≤◌, ◌-◌, List, [], ◌∷◌, ◌++◌, None, drop, length, append_assoc, append-nil, length-append}
use Rattle.std.proofs.Common.{◌⊎◌, inl, inr}
use Rattle.cd_cells.specs.declared.cell.Part.{Part}
use Rattle.cd_cells.specs.declared.cell.ValueId.{ValueId}
use Rattle.cd_notation.specs.Inner.Open.{IsTop}
use Rattle.cd_notation.specs.Inner.Leading.{parts_of, TakesPart, IsTaken}
use Rattle.cd_notation.proofs.Cutting.{cut_top}

pub record StillCollects (first from : ℕ) (numbers below_numbers : List ℕ) (ids below : List ValueId) (labels : List ℕ) (items : List ValueId) (parts : List Part) : Type 0 where
  pub left_numbers : List ℕ
  pub left_ids : List ValueId
  pub labels_are : IsTop first left_numbers below_numbers labels
  pub items_are : IsTop from left_ids below items
  pub goes : parts ++ parts_of left_numbers left_ids ≡ parts_of numbers ids

abbrev pub IsCollecting : (first from : ℕ) (old_labels : List ℕ) (old_items : List ValueId) (labels : List ℕ) (items : List ValueId) (parts : List Part) → Type 0
IsCollecting first from old_labels old_items labels items parts = (numbers below_numbers : List ℕ) (ids below : List ValueId)
    → IsTop first numbers below_numbers old_labels → IsTop from ids below old_items → StillCollects first from numbers below_numbers ids below labels items parts

pub collecting_starts : (first from : ℕ) (labels : List ℕ) (items : List ValueId) → IsCollecting first from labels items labels items []
collecting_starts first from labels items numbers below_numbers ids below are_labels are_items =
    record { left_numbers = numbers; left_ids = ids; labels_are = are_labels; items_are = are_items; goes = refl }

-- the label, or the item, on the top
record IsOver {X : Type 0} (from : ℕ) (one : X) (all top below : List X) : Type 0 where
  pub rest : List X
  pub is : top ≡ one ∷ rest
  pub others : IsTop from rest below all

over : {X : Type 0} (from : ℕ) (one : X) (before all top below : List X) → before ≡ one ∷ all → from < length before → IsTop from top below before → IsOver from one all top below
over from one before all [] below popped more is = absurd (omega (arith, more, ap length is.is, is.under))
over from one before all (first ∷ rest) below popped more is =
    let whole : one ∷ all ≡ first ∷ rest ++ below = sym popped ∙ is.is in
    let same : first ≡ one = cc whole in
    record { rest = rest; is = ap (λ (x : _). x ∷ rest) same; others = record { is = cc whole; under = is.under } }

pub none_over : {X : Type 0} (from : ℕ) (all top below : List X) → length all ≤ from → IsTop from top below all → (top ≡ []) × (all ≡ below)
none_over from all [] below less is = (refl, is.is)
none_over from all (first ∷ rest) below less is = absurd (omega (arith, less, is.under, ap length is.is, length-append rest below))

pub collects_on : (first from : ℕ) (old_labels : List ℕ) (old_items : List ValueId) (labels : List ℕ) (items : List ValueId) (parts : List Part) (part : Part)
    (new_labels : List ℕ) (new_items : List ValueId) (new_parts : List Part) → IsCollecting first from old_labels old_items labels items parts
    → TakesPart first from labels items part new_labels new_items → new_parts ≡ parts ++ part ∷ []
    → IsCollecting first from old_labels old_items new_labels new_items new_parts
collects_on first from old_labels old_items labels items parts part new_labels new_items new_parts so_far taken pushed numbers below_numbers ids below are_labels are_items =
    let still = so_far numbers below_numbers ids below are_labels are_items in
    let label = over first part.label labels new_labels still.left_numbers below_numbers taken.label_is taken.many_labels still.labels_are in
    let item = over from taken.id items new_items still.left_ids below taken.item_is taken.many_items still.items_are in
    let made : Part = record { label = part.label; value = taken.id.0 } in
    let same : part ≡ made = ap (λ (value : ℕ). part_of part.label value) taken.value_is in
    record {
      left_numbers = label.rest;
      left_ids = item.rest;
      labels_are = label.others;
      items_are = item.others;
      goes = ap (λ (all : List Part). all ++ parts_of label.rest item.rest) pushed ∙ append_assoc parts (part ∷ []) (parts_of label.rest item.rest)
          ∙ ap (λ (one : Part). parts ++ one ∷ parts_of label.rest item.rest) same
          ∙ ap (λ (rest : List Part). parts ++ rest)
          (sym (both_of still.left_numbers (part.label ∷ label.rest) still.left_ids (taken.id ∷ item.rest) label.is item.is)) ∙ still.goes;
    }
  where
    part_of : ℕ → ℕ → Part
    part_of label value = record { label = label; value = value }

    both_of : (one other : List ℕ) (ids others : List ValueId) → one ≡ other → ids ≡ others → parts_of one ids ≡ parts_of other others
    both_of one other ids others is are = cc (is, are)

-- nothing is left of one of the two
no_parts : (numbers : List ℕ) → parts_of numbers [] ≡ []
no_parts [] = refl
no_parts (number ∷ numbers) = refl

pub collected : (first from : ℕ) (old_labels : List ℕ) (old_items : List ValueId) (labels new_labels last_labels : List ℕ) (items new_items last_items : List ValueId) (parts : List Part)
    → IsCollecting first from old_labels old_items labels items parts → IsTaken first from labels items None new_labels new_items
    → last_labels ≡ drop (length new_labels - first) new_labels → last_items ≡ drop (length new_items - from) new_items
    → (numbers below_numbers : List ℕ) (ids below : List ValueId) → IsTop first numbers below_numbers old_labels → IsTop from ids below old_items
    → (parts ≡ parts_of numbers ids) × (last_labels ≡ below_numbers) × (last_items ≡ below)
collected first from old_labels old_items labels new_labels last_labels items new_items last_items parts so_far (same_labels, same_items, less) cut_labels cut_items
    numbers below_numbers ids below are_labels are_items =
    let still = so_far numbers below_numbers ids below are_labels are_items in (
      sym (append-nil parts) ∙ ap (λ (rest : List Part). parts ++ rest) (sym (none_left less still)) ∙ still.goes,
      cut_labels ∙ cut_top first still.left_numbers below_numbers new_labels (same_labels ∙ still.labels_are.is) still.labels_are.under,
      cut_items ∙ cut_top from still.left_ids below new_items (same_items ∙ still.items_are.is) still.items_are.under,
    )
  where
    none_left : (length labels ≤ first) ⊎ (length items ≤ from) → (still : StillCollects first from numbers below_numbers ids below labels items parts)
        → parts_of still.left_numbers still.left_ids ≡ []
    none_left (inl few) still = ap (λ (list : List ℕ). parts_of list still.left_ids) (none_over first labels still.left_numbers below_numbers few still.labels_are).0
    none_left (inr few) still =
        ap (λ (list : List ValueId). parts_of still.left_numbers list) (none_over from items still.left_ids below few still.items_are).0 ∙ no_parts still.left_numbers
