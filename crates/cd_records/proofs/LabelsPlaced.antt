-- Where a label is to stand among labels in rising order.
use Rattle.std.proofs.Common.{◌≡◌, ◌<◌, ◌≤◌, ◌+◌, ℕ, zero, suc, List, [], ◌∷◌, ◌++◌, map, take, drop, get_or, length, sym}
use Rattle.std.proofs.Common.{ap, ◌∙◌, append_assoc, refl, arith}
use Rattle.std.proofs.lemmas.List.{at_drop_more, at_drop_all, drop_all, drop-map, map-append, take-map, take_all}
use Rattle.std.proofs.lemmas.List.{take_more}
use Rattle.std.specs.Borrow.{Bor}
use Rattle.std.specs.Cmp.Lexicographic.{slice_cmp}
use Rattle.std.specs.Ordering.{nat_cmp}
use Rattle.std.specs.declared.cmp.Ordering.TheVariants.{Less, Equal, Greater}
use Rattle.cd_syntax.specs.Name.{Name}
use Rattle.cd_needs.specs.PlainReasons.{plain_labels}
use Rattle.cd_records.specs.Inner.Labels.{by_order, inserted}

rejoined : {X : Type 0} (k : ℕ) (xs : List X) → take k xs ++ drop k xs ≡ xs
rejoined zero xs = refl
rejoined (suc k) [] = refl
rejoined (suc k) (x ∷ xs) = ap (x ∷◌) (rejoined k xs)

stands_before : (label first : Name) (rest : List Name) → slice_cmp nat_cmp label first ≡ Less
    → inserted label (first ∷ rest) ≡ label ∷ first ∷ rest
stands_before label first rest less =
    ap (λ order. by_order order label first rest (inserted label rest)) less

is_there : (label first : Name) (rest : List Name) → slice_cmp nat_cmp label first ≡ Equal
    → inserted label (first ∷ rest) ≡ first ∷ rest
is_there label first rest equal =
    ap (λ order. by_order order label first rest (inserted label rest)) equal

stands_after : (label first : Name) (rest : List Name) → slice_cmp nat_cmp label first ≡ Greater
    → inserted label (first ∷ rest) ≡ first ∷ inserted label rest
stands_after label first rest greater =
    ap (λ order. by_order order label first rest (inserted label rest)) greater

-- as a loop finds it: the label belongs among what is left
module _ (label : Name) (labels : List (Bor Name)) (k : ℕ)
    (so_far : inserted label (plain_labels labels)
    ≡ plain_labels (take k labels) ++ inserted label (plain_labels (drop k labels))) where
  module _ (first : Bor Name) (below : k < length labels) (is : first ≡ get_or labels k first) where
    left : plain_labels (drop k labels) ≡ first.now ∷ plain_labels (drop (k + 1) labels)
    left = at_drop_more plain_labels labels k first below
        ∙ ap (λ (one : Bor Name). one.now ∷ plain_labels (drop (k + 1) labels)) (sym is)

    pub put_before : slice_cmp nat_cmp label first.now ≡ Less
        → inserted label (plain_labels labels)
        ≡ take k (plain_labels labels) ++ label ∷ drop k (plain_labels labels)
    put_before less = so_far
        ∙ ap (λ (rest : List Name). plain_labels (take k labels) ++ rest)
        (ap (inserted label) left
        ∙ stands_before label first.now (plain_labels (drop (k + 1) labels)) less
        ∙ ap (λ (rest : List Name). label ∷ rest)
        (sym left ∙ sym (drop-map (λ (one : Bor Name). one.now) k labels)))
        ∙ ap (λ (before : List Name). before ++ label ∷ drop k (plain_labels labels))
        (sym (take-map (λ (one : Bor Name). one.now) k labels))

    pub found_there : slice_cmp nat_cmp label first.now ≡ Equal
        → inserted label (plain_labels labels) ≡ plain_labels labels
    found_there equal = so_far
        ∙ ap (λ (rest : List Name). plain_labels (take k labels) ++ rest)
        (ap (inserted label) left
        ∙ is_there label first.now (plain_labels (drop (k + 1) labels)) equal ∙ sym left)
        ∙ sym (map-append (λ (one : Bor Name). one.now) (take k labels) (drop k labels))
        ∙ ap plain_labels (rejoined k labels)

    pub put_after : slice_cmp nat_cmp label first.now ≡ Greater
        → inserted label (plain_labels labels)
        ≡ plain_labels (take (k + 1) labels)
        ++ inserted label (plain_labels (drop (k + 1) labels))
    put_after greater = so_far
        ∙ ap (λ (rest : List Name). plain_labels (take k labels) ++ rest)
        (ap (inserted label) left
        ∙ stands_after label first.now (plain_labels (drop (k + 1) labels)) greater)
        ∙ sym (append_assoc (plain_labels (take k labels)) (first.now ∷ [])
        (inserted label (plain_labels (drop (k + 1) labels))))
        ∙ ap (λ (before : List Name).
        before ++ inserted label (plain_labels (drop (k + 1) labels)))
        (sym (map-append (λ (one : Bor Name). one.now) (take k labels) (first ∷ []))
        ∙ ap plain_labels (ap (λ (one : Bor Name). take k labels ++ one ∷ []) is
        ∙ sym (take_more labels k first below)))

  -- nothing is left
  pub put_last : length labels ≤ k → inserted label (plain_labels labels)
      ≡ take (length labels) (plain_labels labels)
      ++ label ∷ drop (length labels) (plain_labels labels)
  put_last past = so_far
      ∙ ap (λ (rest : List Name). plain_labels (take k labels) ++ rest)
      (at_drop_all (λ (rest : List (Bor Name)). inserted label (plain_labels rest)) labels k past)
      ∙ ap (λ (before : List Name). before ++ label ∷ [])
      (ap plain_labels (take_all k labels past ∙ sym (take_all (length labels) labels (omega arith)))
      ∙ sym (take-map (λ (one : Bor Name). one.now) (length labels) labels))
      ∙ ap (λ (after : List Name). take (length labels) (plain_labels labels) ++ label ∷ after)
      (sym (drop-map (λ (one : Bor Name). one.now) (length labels) labels
      ∙ ap plain_labels (drop_all (length labels) labels (omega arith))))

-- the label stands at its place
pub insert_plain : (labels : List (Bor Name)) (k : ℕ) (one : Bor Name)
    → plain_labels (take k labels ++ one ∷ drop k labels)
    ≡ take k (plain_labels labels) ++ one.now ∷ drop k (plain_labels labels)
insert_plain labels k one =
    map-append (λ (one : Bor Name). one.now) (take k labels) (one ∷ drop k labels)
    ∙ ap (λ (before : List Name). before ++ one.now ∷ plain_labels (drop k labels))
    (sym (take-map (λ (one : Bor Name). one.now) k labels))
    ∙ ap (λ (after : List Name). take k (plain_labels labels) ++ one.now ∷ after)
    (sym (drop-map (λ (one : Bor Name). one.now) k labels))
