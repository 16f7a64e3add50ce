-- Results for integers of two sets, interval by interval.
use Rattle.std.proofs.Common.{◌≡◌, ℤ, pos, ◌+ℤ◌, ◌≤ℤ◌, ◌<◌, ◌⊎◌, inl, inr, ℕ, zero, suc, Bool, true}
use Rattle.std.proofs.Common.{false, ◌||◌, List, [], ◌∷◌, ◌++◌, Some, None, Option, refl, sym, ap}
use Rattle.std.proofs.Common.{subst, ◌∙◌, arith, true≢false, take, length, ◌≤◌, ◌+◌, map, get_or}
use Rattle.std.proofs.lemmas.Int.{ints}
use Rattle.std.proofs.lemmas.List.{take_all, map_push, map_more}
use Rattle.std.proofs.lemmas.Option.{none-some, same_Some}
use Rattle.std.specs.List.{slice_get}
use Rattle.std.specs.Option.{option_map}
use Rattle.cd_model.specs.AllOf.{AllOf}
use Rattle.cd_sets.specs.declared.interval.Interval.{Interval}
use Rattle.cd_sets.specs.Interval.{holds, is_between, bounds_of}
use Rattle.cd_sets.specs.Rises.{Rises, IsRising}
use Rattle.cd_sets.proofs.Rising.{holds_append, rises_bounds}
use Rattle.cd_syntax.specs.Integer.{LEAST, GREATEST, IsInteger}
use Rattle.cd_operators.specs.declared.operation.Operation.{Operation}
use Rattle.cd_operators.specs.Inner.Bounds.{lowest, highest}
use Rattle.cd_operators.specs.Inner.Combined.{IsPiece, interval, AreOfTwo}
use Rattle.cd_operators.proofs.OfIntervals.{between_is, is_in, result_between, between_is_result}

-- each interval of a set is one
piece_from : (from : ℤ) (xs : List Interval) (to : ℤ) (k : ℕ) (x : Interval) → Rises from xs to
    → slice_get xs k ≡ Some x → (from ≤ℤ x.low) × (x.low ≤ℤ x.high) × ((x.high +ℤ pos 2) ≤ℤ to)
piece_from from [] to k x rises is = absurd (none-some x is)
piece_from from (y ∷ xs) to zero x rises is =
    subst (λ (x : Interval). (from ≤ℤ x.low) × (x.low ≤ℤ x.high) × ((x.high +ℤ pos 2) ≤ℤ to))
    (same_Some y x is) (rises.0, rises.1, rises_bounds (y.high +ℤ pos 2) xs to rises.2)
piece_from from (y ∷ xs) to (suc k) x rises is =
    let rest = piece_from (y.high +ℤ pos 2) xs to k x rises.2 is in
    let first : from ≤ℤ y.low = rises.0 in
    let grows : y.low ≤ℤ y.high = rises.1 in
    let later : (y.high +ℤ pos 2) ≤ℤ x.low = rest.0 in
    (omega (arith, ints), rest.1, rest.2)

pub is_piece : (xs : List Interval) (k : ℕ) (x : Interval) → IsRising xs
    → slice_get xs k ≡ Some x → IsPiece (bounds_of x)
is_piece xs k x rising is =
    let found = piece_from LEAST xs (GREATEST +ℤ pos 2) k x rising is in record {
      least = found.0;
      rises = found.1;
      greatest =
          let end : (x.high +ℤ pos 2) ≤ℤ (GREATEST +ℤ pos 2) = found.2 in omega (arith, ints);
    }

-- the interval whose bounds are read
pub read_piece : (xs : List Interval) (k : ℕ) (bounds : ℤ × ℤ)
    → option_map bounds_of (slice_get xs k) ≡ Some bounds → slice_get xs k ≡ Some (interval bounds)
read_piece xs k bounds is = by_found (slice_get xs k) is
  where
    by_found : (found : Option Interval) → option_map bounds_of found ≡ Some bounds
        → found ≡ Some (interval bounds)
    by_found None none = absurd (none-some bounds none)
    by_found (Some x) same = ap (option_map interval) same

-- what one of two holds
or_alone : (b : Bool) → (b || false) ≡ b
or_alone true = refl
or_alone false = refl

or_split : (one other : Bool) → (one || other) ≡ true → (one ≡ true) ⊎ (other ≡ true)
or_split true other is = inl refl
or_split false other is = inr is

or_left : (one other : Bool) → one ≡ true → (one || other) ≡ true
or_left true other is = refl
or_left false other is = absurd (true≢false (sym is))

or_right : (one other : Bool) → other ≡ true → (one || other) ≡ true
or_right true other is = refl
or_right false other is = is

module _ (operation : Operation) where
  -- nothing of nothing
  pub none_first : (second set : List Interval) → set ≡ [] → AreOfTwo operation [] second set
  none_first second set none z is = (
    λ inside. absurd (true≢false (sym inside ∙ ap (λ set. holds set z) none)),
    λ of. absurd (true≢false (sym of.4)),
  )

  pub none_second : (first set : List Interval) → set ≡ [] → AreOfTwo operation first [] set
  none_second first set none z is = (
    λ inside. absurd (true≢false (sym inside ∙ ap (λ set. holds set z) none)),
    λ of. absurd (true≢false (sym of.5)),
  )

  -- of one interval and another
  pub one_and_one : (first second : ℤ × ℤ) (set : List Interval) → IsPiece first
      → IsPiece second
      → ((z : ℤ) → IsInteger z → holds set z
      ≡ is_between (lowest operation first second) (highest operation first second) z)
      → AreOfTwo operation (interval first ∷ []) (interval second ∷ []) set
  one_and_one first second set one other exact z is = (
    λ inside.
        let bounds = between_is (lowest operation first second) (highest operation first second) z
        (sym (exact z is) ∙ inside) in
        let of = between_is_result operation first second z one.rises other.rises bounds.0 bounds.1
        in (
          of.0,
          of.1,
          (least_of of.0 first one of.2, most_of of.0 first one of.3),
          (least_of of.1 second other of.4, most_of of.1 second other of.5),
          or_alone (is_between first.0 first.1 of.0) ∙ is_in first.0 first.1 of.0 of.2 of.3,
          or_alone (is_between second.0 second.1 of.1) ∙ is_in second.0 second.1 of.1 of.4 of.5,
          of.6,
        ),
    λ of.
        let a = between_is first.0 first.1 of.0 (sym (or_alone (is_between first.0 first.1 of.0))
        ∙ of.4) in
        let b = between_is second.0 second.1 of.1
        (sym (or_alone (is_between second.0 second.1 of.1)) ∙ of.5) in
        let bounds = result_between operation first second z one.rises other.rises
        (of.0, of.1, a.0, a.1, b.0, b.1, of.6) in
        exact z is
        ∙ is_in (lowest operation first second) (highest operation first second) z bounds.0
        bounds.1,
  )
    where
      least_of : (a : ℤ) (bounds : ℤ × ℤ) → IsPiece bounds → bounds.0 ≤ℤ a
          → LEAST ≤ℤ a
      least_of a bounds piece above =
          let least : LEAST ≤ℤ bounds.0 = piece.least in omega (arith, ints)

      most_of : (a : ℤ) (bounds : ℤ × ℤ) → IsPiece bounds → a ≤ℤ bounds.1
          → a ≤ℤ GREATEST
      most_of a bounds piece below =
          let greatest : bounds.1 ≤ℤ GREATEST = piece.greatest in omega (arith, ints)

  -- one interval more in the first, and in the second
  module _ (x : Interval) (one other set : List Interval)
      (exact : (z : ℤ) → holds set z ≡ (holds one z || holds other z)) where
    pub first_more : (xs second : List Interval) → AreOfTwo operation xs second one
        → AreOfTwo operation (x ∷ []) second other
        → AreOfTwo operation (xs ++ x ∷ []) second set
    first_more xs second so_far more z is = (
      λ inside. elim (or_split (holds one z) (holds other z) (sym (exact z) ∙ inside)) [
        | inl left ↦ let of = (so_far z is).0 left in (
          of.0,
          of.1,
          of.2,
          of.3,
          holds_append xs x of.0
              ∙ or_left (holds xs of.0) (is_between x.low x.high of.0) of.4,
          of.5,
          of.6,
        )
        | inr right ↦ let of = (more z is).0 right in (
          of.0,
          of.1,
          of.2,
          of.3,
          holds_append xs x of.0
              ∙ or_right (holds xs of.0) (is_between x.low x.high of.0)
              (sym (or_alone (is_between x.low x.high of.0)) ∙ of.4),
          of.5,
          of.6,
        )
      ],
      λ of. exact z ∙ elim (or_split (holds xs of.0) (is_between x.low x.high of.0)
          (sym (holds_append xs x of.0) ∙ of.4)) [
            | inl left ↦ or_left (holds one z) (holds other z)
                ((so_far z is).1 (of.0, of.1, of.2, of.3, left, of.5, of.6))
            | inr right ↦ or_right (holds one z) (holds other z)
                ((more z is).1 (
                  of.0,
                  of.1,
                  of.2,
                  of.3,
                  or_alone (is_between x.low x.high of.0) ∙ right,
                  of.5,
                  of.6,
                ))
          ],
    )

    pub second_more : (first ys : List Interval) → AreOfTwo operation first ys one
        → AreOfTwo operation first (x ∷ []) other
        → AreOfTwo operation first (ys ++ x ∷ []) set
    second_more first ys so_far more z is = (
      λ inside. elim (or_split (holds one z) (holds other z) (sym (exact z) ∙ inside)) [
        | inl left ↦ let of = (so_far z is).0 left in (
          of.0,
          of.1,
          of.2,
          of.3,
          of.4,
          holds_append ys x of.1
              ∙ or_left (holds ys of.1) (is_between x.low x.high of.1) of.5,
          of.6,
        )
        | inr right ↦ let of = (more z is).0 right in (
          of.0,
          of.1,
          of.2,
          of.3,
          of.4,
          holds_append ys x of.1
              ∙ or_right (holds ys of.1) (is_between x.low x.high of.1)
              (sym (or_alone (is_between x.low x.high of.1)) ∙ of.5),
          of.6,
        )
      ],
      λ of. exact z ∙ elim (or_split (holds ys of.1) (is_between x.low x.high of.1)
          (sym (holds_append ys x of.1) ∙ of.5)) [
            | inl left ↦ or_left (holds one z) (holds other z)
                ((so_far z is).1 (of.0, of.1, of.2, of.3, of.4, left, of.6))
            | inr right ↦ or_right (holds one z) (holds other z)
                ((more z is).1 (
                  of.0,
                  of.1,
                  of.2,
                  of.3,
                  of.4,
                  or_alone (is_between x.low x.high of.1) ∙ right,
                  of.6,
                ))
          ],
    )

-- The bounds so far are those of the first intervals
pub read_more : (xs : List Interval) (old new : List (ℤ × ℤ)) (bounds : ℤ × ℤ)
    → map interval old ≡ take (length old) xs
    → option_map bounds_of (slice_get xs (length old)) ≡ Some bounds → new ≡ old ++ bounds ∷ []
    → map interval new ≡ take (length new) xs
read_more xs old new bounds so_far is put =
    ap (map interval) put ∙ map_push interval old bounds
    ∙ ap (λ all. all ++ interval bounds ∷ []) so_far
    ∙ sym (taken xs (length old) (interval bounds) (read_piece xs (length old) bounds is))
    ∙ ap (λ k. take k xs) (sym (ap length put ∙ count old))
  where
    taken : (xs : List Interval) (k : ℕ) (x : Interval) → slice_get xs k ≡ Some x
        → take (suc k) xs ≡ take k xs ++ x ∷ []
    taken [] k x is = absurd (none-some x is)
    taken (y ∷ xs) zero x is = ap (λ one. one ∷ []) (same_Some y x is)
    taken (y ∷ xs) (suc k) x is = ap (λ all. y ∷ all) (taken xs k x is)

    count : (all : List (ℤ × ℤ)) → length (all ++ bounds ∷ []) ≡ suc (length all)
    count [] = refl
    count (one ∷ all) = ap suc (count all)

-- and all are pieces
pub pieces_more : (xs : List Interval) (old new : List (ℤ × ℤ)) (bounds : ℤ × ℤ) → IsRising xs
    → AllOf IsPiece old → option_map bounds_of (slice_get xs (length old)) ≡ Some bounds
    → new ≡ old ++ bounds ∷ [] → AllOf IsPiece new
pieces_more xs old new bounds rising all is put = subst (AllOf IsPiece) (sym put)
    (pushed old all)
  where
    pushed : (all : List (ℤ × ℤ)) → AllOf IsPiece all → AllOf IsPiece (all ++ bounds ∷ [])
    pushed [] each = (
      is_piece xs (length old) (interval bounds) rising (read_piece xs (length old) bounds is),
      tt,
    )
    pushed (one ∷ rest) each = (each.0, pushed rest each.1)

-- no interval is left
past_end : (xs : List Interval) (k : ℕ) → option_map bounds_of (slice_get xs k) ≡ None
    → length xs ≤ k
past_end [] k none = omega arith
past_end (x ∷ xs) zero none = absurd (none-some (bounds_of x) (sym none))
past_end (x ∷ xs) (suc k) none = omega (arith, past_end xs k none)

pub read_all : (xs : List Interval) (all : List (ℤ × ℤ)) → map interval all ≡ take (length all) xs
    → option_map bounds_of (slice_get xs (length all)) ≡ None → map interval all ≡ xs
read_all xs all same none = same ∙ take_all (length all) xs (past_end xs (length all) none)

-- The first bounds and one more
module _ (operation : Operation) (all : List (ℤ × ℤ)) (i : ℕ) (piece : ℤ × ℤ)
    (below : i < length all) (is : piece ≡ get_or all i piece) (one other set : List Interval)
    (exact : (z : ℤ) → holds set z ≡ (holds one z || holds other z)) where
  more_is : map interval (take (i + 1) all) ≡ map interval (take i all) ++ interval piece ∷ []
  more_is = map_more interval all i piece below
      ∙ ap (λ last. map interval (take i all) ++ interval last ∷ []) (sym is)

  pub with_more : (second : List Interval)
      → AreOfTwo operation (map interval (take i all)) second one
      → AreOfTwo operation (interval piece ∷ []) second other
      → AreOfTwo operation (map interval (take (i + 1) all)) second set
  with_more second so_far more =
      subst (λ (first : List Interval). AreOfTwo operation first second set) (sym more_is)
      (first_more operation (interval piece) one other set exact (map interval (take i all)) second
      so_far more)

  pub of_more : (first : List Interval)
      → AreOfTwo operation first (map interval (take i all)) one
      → AreOfTwo operation first (interval piece ∷ []) other
      → AreOfTwo operation first (map interval (take (i + 1) all)) set
  of_more first so_far more =
      subst (λ (second : List Interval). AreOfTwo operation first second set) (sym more_is)
      (second_more operation (interval piece) one other set exact first (map interval (take i all))
      so_far more)

-- the thing of a place, whatever would be there past the end
pub same_place : {X : Type 0} (xs : List X) (i : ℕ) (x : X) → i < length xs
    → get_or xs i x ≡ get_or xs i (get_or xs i x)
same_place [] i x below = absurd (omega (arith, below))
same_place (y ∷ xs) zero x below = refl
same_place (y ∷ xs) (suc i) x below = same_place xs i x (omega (arith, below))
