-- The pieces of clauses are exact: they hold what is in a clause, in one of its pieces at most, and
-- are inhabited.
use Rattle.std.proofs.Common.{◌≡◌, ◌⊎◌, inl, inr, ◌↔◌, Bool, true, false, List, [], ◌∷◌, ◌++◌, map}
use Rattle.std.proofs.Common.{refl}
use Rattle.cd_model.specs.AllOf.{AllOf, AnyOf}
use Rattle.cd_model.proofs.Ones.{one_on_left, one_on_right, one_on_a_side, each_of_lists}
use Rattle.cd_products.specs.Boxes as refining
use Rattle.cd_products.specs.Boxes.{Clause}
use Rattle.cd_products.specs.InBoxes.{InBox, OutsideRow, InOneAtMost, InClause}

module _ (X C R : Type 0) (Sort : X → Type 0) (inside : X → C → Type 0)
    (has : X → R → Bool → Type 0) (within without : R → C → C) (inhabited : List C → Bool)
    (is_within : (x : X) (r : R) (c : C) → inside x (within r c) ↔ (inside x c × has x r true))
    (is_without : (x : X) (r : R) (c : C)
    → inside x (without r c) ↔ (inside x c × has x r false)) where
  abbrev In : List X → List C → Type 0
  In = InBox X C R inside has

  abbrev Out : List X → List R → Type 0
  Out = OutsideRow X C R inside has

  abbrev AtMost : List X → List (List C) → Type 0
  AtMost = InOneAtMost X C R inside has

  abbrev IsIn : List X → Clause C R → Type 0
  IsIn = InClause X C R inside has

  abbrev less : List R → List C → List (List C)
  less = refining.less C R within without

  abbrev keep_if : Bool → List C → List (List C) → List (List C)
  keep_if = refining.keep_if C R within without inhabited

  abbrev keep : List (List C) → List (List C)
  keep = refining.keep C R within without inhabited

  abbrev refuse : List R → List (List C) → List (List C)
  refuse = refining.refuse C R within without inhabited

  abbrev refuse_all : List (List R) → List (List C) → List (List C)
  refuse_all = refining.refuse_all C R within without inhabited

  abbrev pieces_of : Clause C R → List (List C)
  pieces_of = refining.pieces_of C R within without inhabited

  abbrev pieces : List (Clause C R) → List (List C)
  pieces = refining.pieces C R within without inhabited

  abbrev Inhabited : List (List C) → Type 0
  Inhabited = AllOf (λ box. inhabited box ≡ true)

  -- a cell before each of some boxes
  put : (x : X) (xs : List X) (c : C) (boxes : List (List C)) → inside x c → AnyOf (In xs) boxes
      → AnyOf (In (x ∷ xs)) (map (λ box. c ∷ box) boxes)
  put x xs c [] is one = absurd one
  put x xs c (box ∷ boxes) is (inl here) = inl (is, here)
  put x xs c (box ∷ boxes) is (inr later) = inr (put x xs c boxes is later)

  taken_off : (x : X) (xs : List X) (c : C) (boxes : List (List C))
      → AnyOf (In (x ∷ xs)) (map (λ box. c ∷ box) boxes) → inside x c × AnyOf (In xs) boxes
  taken_off x xs c [] one = absurd one
  taken_off x xs c (box ∷ boxes) (inl here) = (here.0, inl here.1)
  taken_off x xs c (box ∷ boxes) (inr later) =
      let found = taken_off x xs c boxes later in (found.0, inr found.1)

  put_once : (x : X) (xs : List X) (c : C) (boxes : List (List C)) → AtMost xs boxes
      → AtMost (x ∷ xs) (map (λ box. c ∷ box) boxes)
  put_once x xs c [] once = tt
  put_once x xs c (box ∷ boxes) once = (
    λ here later. once.0 here.1 (taken_off x xs c boxes later).1,
    put_once x xs c boxes once.1,
  )

  -- less one row
  less_only : (xs : List X) (row : List R) (cells : List C) → AnyOf (In xs) (less row cells)
      → In xs cells × Out xs row
  less_only xs [] cells one = absurd one
  less_only xs (r ∷ row) [] one = absurd one
  less_only [] (r ∷ row) (c ∷ cells) one = absurd (empty (less row cells) one)
    where
      empty : (boxes : List (List C))
          → AnyOf (In []) ((without r c ∷ cells) ∷ map (λ box. within r c ∷ box) boxes) → ⊥
      empty boxes (inl here) = here
      empty [] (inr later) = later
      empty (box ∷ boxes) (inr (inl here)) = here
      empty (box ∷ boxes) (inr (inr later)) = empty boxes (inr later)
  less_only (x ∷ xs) (r ∷ row) (c ∷ cells) (inl here) =
      let first = (is_without x r c).0 here.0 in ((first.0, here.1), inl first.1)
  less_only (x ∷ xs) (r ∷ row) (c ∷ cells) (inr later) =
      let off = taken_off x xs (within r c) (less row cells) later in
      let first = (is_within x r c).0 off.0 in
      let rest = less_only xs row cells off.1 in
      ((first.0, rest.0), inr rest.1)

  -- the boxes that are kept
  keep_only : (xs : List X) (boxes : List (List C)) → AnyOf (In xs) (keep boxes)
      → AnyOf (In xs) boxes
  keep_only xs [] one = one
  keep_only xs (box ∷ boxes) one =
      by_test (inhabited box) (λ later. inr (keep_only xs boxes later)) one
    where
      by_test : (b : Bool) → (AnyOf (In xs) (keep boxes) → AnyOf (In xs) (box ∷ boxes))
          → AnyOf (In xs) (keep_if b box (keep boxes)) → AnyOf (In xs) (box ∷ boxes)
      by_test true further (inl here) = inl here
      by_test true further (inr later) = further later
      by_test false further later = further later

  keep_once : (xs : List X) (boxes : List (List C)) → AtMost xs boxes → AtMost xs (keep boxes)
  keep_once xs [] once = tt
  keep_once xs (box ∷ boxes) once = by_test (inhabited box) (keep_once xs boxes once.1)
    where
      by_test : (b : Bool) → AtMost xs (keep boxes) → AtMost xs (keep_if b box (keep boxes))
      by_test true further = (λ here later. once.0 here (keep_only xs boxes later), further)
      by_test false further = further

  keep_inhabited : (boxes : List (List C)) → Inhabited (keep boxes)
  keep_inhabited [] = tt
  keep_inhabited (box ∷ boxes) = by_test (inhabited box) refl (keep_inhabited boxes)
    where
      by_test : (b : Bool) → inhabited box ≡ b → Inhabited (keep boxes)
          → Inhabited (keep_if b box (keep boxes))
      by_test true h further = (h, further)
      by_test false h further = further

  -- less one row after another
  refuse_only : (xs : List X) (row : List R) (boxes : List (List C))
      → AnyOf (In xs) (refuse row boxes) → AnyOf (In xs) boxes × Out xs row
  refuse_only xs row [] one = absurd one
  refuse_only xs row (box ∷ boxes) one =
      elim (one_on_a_side (In xs) (keep (less row box)) (refuse row boxes) one) [
        | inl here ↦
            let found = less_only xs row box (keep_only xs (less row box) here) in
            (inl found.0, found.1)
        | inr later ↦ let found = refuse_only xs row boxes later in (inr found.0, found.1)
      ]

  refuse_inhabited : (row : List R) (boxes : List (List C)) → Inhabited (refuse row boxes)
  refuse_inhabited row [] = tt
  refuse_inhabited row (box ∷ boxes) =
      each_of_lists (λ box. inhabited box ≡ true) (keep (less row box)) (refuse row boxes)
      (keep_inhabited (less row box)) (refuse_inhabited row boxes)

  refuse_all_only : (xs : List X) (refused : List (List R)) (boxes : List (List C))
      → AnyOf (In xs) (refuse_all refused boxes) → AnyOf (In xs) boxes × AllOf (Out xs) refused
  refuse_all_only xs [] boxes one = (one, tt)
  refuse_all_only xs (row ∷ refused) boxes one =
      let further = refuse_all_only xs refused (refuse row boxes) one in
      let here = refuse_only xs row boxes further.0 in
      (here.0, (here.1, further.1))

  refuse_all_inhabited : (refused : List (List R)) (boxes : List (List C)) → Inhabited boxes
      → Inhabited (refuse_all refused boxes)
  refuse_all_inhabited [] boxes all = all
  refuse_all_inhabited (row ∷ refused) boxes all =
      refuse_all_inhabited refused (refuse row boxes) (refuse_inhabited row boxes)

  -- What is in a piece is in a clause, and each piece is inhabited
  pub pieces_only : (xs : List X) (clauses : List (Clause C R)) → AnyOf (In xs) (pieces clauses)
      → AnyOf (IsIn xs) clauses
  pieces_only xs [] one = one
  pieces_only xs (clause ∷ clauses) one =
      elim (one_on_a_side (In xs) (pieces_of clause) (pieces clauses) one) [
        | inl here ↦
            let found = refuse_all_only xs clause.refused (keep (clause.box ∷ [])) here in
            elim (keep_only xs (clause.box ∷ []) found.0) [
              | inl inside_it ↦ inl (inside_it, found.1)
              | inr none ↦ absurd none
            ]
        | inr later ↦ inr (pieces_only xs clauses later)
      ]

  pub pieces_inhabited : (clauses : List (Clause C R)) → Inhabited (pieces clauses)
  pieces_inhabited [] = tt
  pieces_inhabited (clause ∷ clauses) =
      each_of_lists (λ box. inhabited box ≡ true) (pieces_of clause) (pieces clauses)
      (refuse_all_inhabited clause.refused (keep (clause.box ∷ []))
      (keep_inhabited (clause.box ∷ [])))
      (pieces_inhabited clauses)

  -- What is in a clause is in a piece
  module _ (decided : (x : X) (r : R) → Sort x → has x r true ⊎ has x r false)
      (drops_empty : (box : List C) (xs : List X) → inhabited box ≡ false → AllOf Sort xs
      → In xs box → ⊥) where
    less_covers : (xs : List X) (row : List R) (cells : List C) → AllOf Sort xs → In xs cells
        → Out xs row → AnyOf (In xs) (less row cells)
    less_covers [] row cells sorts is out = absurd out
    less_covers (x ∷ xs) [] cells sorts is out = absurd out
    less_covers (x ∷ xs) (r ∷ row) [] sorts is out = absurd is
    less_covers (x ∷ xs) (r ∷ row) (c ∷ cells) sorts is (inl out) =
        inl ((is_without x r c).1 (is.0, out), is.1)
    less_covers (x ∷ xs) (r ∷ row) (c ∷ cells) sorts is (inr later) =
        let further = less_covers xs row cells sorts.1 is.1 later in
        elim (decided x r sorts.0) [
          | inl yes_ ↦ inr
              (put x xs (within r c) (less row cells) ((is_within x r c).1 (is.0, yes_)) further)
          | inr no_ ↦ inl ((is_without x r c).1 (is.0, no_), is.1)
        ]

    keep_covers : (xs : List X) → AllOf Sort xs → (boxes : List (List C)) → AnyOf (In xs) boxes
        → AnyOf (In xs) (keep boxes)
    keep_covers xs sorts [] one = one
    keep_covers xs sorts (box ∷ boxes) (inl here) = by_test (inhabited box) refl
      where
        by_test : (b : Bool) → inhabited box ≡ b → AnyOf (In xs) (keep_if b box (keep boxes))
        by_test true h = inl here
        by_test false h = absurd (drops_empty box xs h sorts here)
    keep_covers xs sorts (box ∷ boxes) (inr later) =
        by_test (inhabited box) (keep_covers xs sorts boxes later)
      where
        by_test : (b : Bool) → AnyOf (In xs) (keep boxes)
            → AnyOf (In xs) (keep_if b box (keep boxes))
        by_test true further = inr further
        by_test false further = further

    refuse_covers : (xs : List X) → AllOf Sort xs → (row : List R) (boxes : List (List C))
        → AnyOf (In xs) boxes → Out xs row → AnyOf (In xs) (refuse row boxes)
    refuse_covers xs sorts row [] one out = one
    refuse_covers xs sorts row (box ∷ boxes) (inl here) out =
        one_on_left (In xs) (keep (less row box)) (refuse row boxes)
        (keep_covers xs sorts (less row box) (less_covers xs row box sorts here out))
    refuse_covers xs sorts row (box ∷ boxes) (inr later) out =
        one_on_right (In xs) (keep (less row box)) (refuse row boxes)
        (refuse_covers xs sorts row boxes later out)

    refuse_all_covers : (xs : List X) → AllOf Sort xs → (refused : List (List R))
        (boxes : List (List C)) → AnyOf (In xs) boxes → AllOf (Out xs) refused
        → AnyOf (In xs) (refuse_all refused boxes)
    refuse_all_covers xs sorts [] boxes one out = one
    refuse_all_covers xs sorts (row ∷ refused) boxes one out =
        refuse_all_covers xs sorts refused (refuse row boxes)
        (refuse_covers xs sorts row boxes one out.0) out.1

    pub pieces_cover : (xs : List X) → AllOf Sort xs → (clauses : List (Clause C R))
        → AnyOf (IsIn xs) clauses → AnyOf (In xs) (pieces clauses)
    pieces_cover xs sorts [] one = one
    pieces_cover xs sorts (clause ∷ clauses) (inl here) =
        one_on_left (In xs) (pieces_of clause) (pieces clauses)
        (refuse_all_covers xs sorts clause.refused (keep (clause.box ∷ []))
        (keep_covers xs sorts (clause.box ∷ []) (inl here.0)) here.1)
    pieces_cover xs sorts (clause ∷ clauses) (inr later) =
        one_on_right (In xs) (pieces_of clause) (pieces clauses)
        (pieces_cover xs sorts clauses later)

  -- The pieces of one clause are disjoint
  module _ (apart : (x : X) (r : R) → has x r true → has x r false → ⊥) where
    less_once : (xs : List X) (row : List R) (cells : List C) → AtMost xs (less row cells)
    less_once xs [] cells = tt
    less_once xs (r ∷ row) [] = tt
    less_once [] (r ∷ row) (c ∷ cells) = (λ here later. here, nothing_in (less row cells))
      where
        nothing_in : (boxes : List (List C)) → AtMost [] (map (λ box. within r c ∷ box) boxes)
        nothing_in [] = tt
        nothing_in (box ∷ boxes) = (λ here later. here, nothing_in boxes)
    less_once (x ∷ xs) (r ∷ row) (c ∷ cells) = (
      λ here later. apart x r
          ((is_within x r c).0 (taken_off x xs (within r c) (less row cells) later).0).1
          ((is_without x r c).0 here.0).1,
      put_once x xs (within r c) (less row cells) (less_once xs row cells),
    )

    append_once : (xs : List X) (a b : List (List C)) → AtMost xs a → AtMost xs b
        → (AnyOf (In xs) a → AnyOf (In xs) b → ⊥) → AtMost xs (a ++ b)
    append_once xs [] b one other never = other
    append_once xs (box ∷ a) b one other never = (
      λ here later. elim (one_on_a_side (In xs) a b later) [
        | inl among ↦ one.0 here among
        | inr among ↦ never (inl here) among
      ],
      append_once xs a b one.1 other (λ later among. never (inr later) among),
    )

    refuse_once : (xs : List X) (row : List R) (boxes : List (List C)) → AtMost xs boxes
        → AtMost xs (refuse row boxes)
    refuse_once xs row [] once = tt
    refuse_once xs row (box ∷ boxes) once =
        append_once xs (keep (less row box)) (refuse row boxes)
        (keep_once xs (less row box) (less_once xs row box)) (refuse_once xs row boxes once.1)
        (λ here later. once.0 (less_only xs row box (keep_only xs (less row box) here)).0
        (refuse_only xs row boxes later).0)

    refuse_all_once : (xs : List X) (refused : List (List R)) (boxes : List (List C))
        → AtMost xs boxes → AtMost xs (refuse_all refused boxes)
    refuse_all_once xs [] boxes once = once
    refuse_all_once xs (row ∷ refused) boxes once =
        refuse_all_once xs refused (refuse row boxes) (refuse_once xs row boxes once)

    pub pieces_once : (xs : List X) (clause : Clause C R) → AtMost xs (pieces_of clause)
    pieces_once xs clause = refuse_all_once xs clause.refused (keep (clause.box ∷ []))
        (keep_once xs (clause.box ∷ []) (λ here later. later, tt))
