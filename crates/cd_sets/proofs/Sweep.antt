-- The steps of a sweep, over plain sets of numbers.
use Rattle.std.proofs.Common.{◌≡◌, ℤ, pos, ◌+ℤ◌, ◌≤ℤ◌, ◌<ℤ◌, negsuc, ℕ, ◌+◌, ◌-◌, ◌<◌, Bool, false, List, [], ◌∷◌, Option, Some, None, refl, ◌∙◌, arith}
use Rattle.std.proofs.lemmas.Int.{ints, by_lt_z}
use Rattle.cd_sets.specs.declared.interval.Interval.{Interval}
use Rattle.cd_sets.specs.declared.combine.Operation.{Operation}
use Rattle.cd_sets.specs.declared.combine.Operation.TheVariants.{Union, Intersection, Difference}
use Rattle.cd_sets.specs.Interval.{holds}
use Rattle.cd_syntax.specs.Integer.{LEAST, GREATEST}
use Rattle.cd_sets.specs.Rises.{IsRising}
use Rattle.cd_sets.specs.Inner.Combine.{keeps_of, IsAhead, IsSwept}
use Rattle.cd_sets.proofs.Rising.{holds_before, holds_after, rises_later}

-- no operation keeps a number that neither set holds
pub keeps_neither : (operation : Operation) → keeps_of operation false false ≡ false
keeps_neither Union = refl
keeps_neither Intersection = refl
keeps_neither Difference = refl

-- at the start all the intervals matter
pub ahead_at_start : (xs : List Interval) → IsRising xs → IsAhead LEAST xs
ahead_at_start [] rising = tt
ahead_at_start (x ∷ xs) rising =
    let low : LEAST ≤ℤ x.low = rising.0 in
    let high : x.low ≤ℤ x.high = rising.1 in
    (omega (arith, ints), rising.1, rising.2)

-- what matters from a number on matters from an earlier one on
pub ahead_earlier : (from earlier : ℤ) (xs : List Interval) → IsAhead from xs → earlier ≤ℤ from → IsAhead earlier xs
ahead_earlier from earlier [] ahead le = tt
ahead_earlier from earlier (x ∷ xs) ahead le =
    let high : from ≤ℤ x.high = ahead.0 in
    (omega (arith, ints), ahead.1, ahead.2)

-- the sweep may have come further
pub swept_later : (kept : List Interval) (since : Option ℤ) (from later : ℤ) → IsSwept kept since from → from ≤ℤ later → IsSwept kept since later
swept_later kept None from later is le = rises_later LEAST kept from later is le
swept_later kept (Some low) from later is le =
    let below : low <ℤ from = is.0 in
    (omega (arith, ints), is.1)

-- intervals of numbers of 128 bits hold no other number
pub holds_below_least : (xs : List Interval) (z : ℤ) → IsRising xs → z <ℤ LEAST → holds xs z ≡ false
holds_below_least xs z rising below = holds_before LEAST xs (GREATEST +ℤ pos 2) z rising below

pub holds_above_greatest : (xs : List Interval) (z : ℤ) → IsRising xs → GREATEST <ℤ z → holds xs z ≡ false
holds_above_greatest xs z rising above = holds_after LEAST xs (GREATEST +ℤ pos 2) z rising (omega (arith, ints))

-- one run more: what was kept before it stays, and in the run the sides are as their runs say
pub swept_on : (operation : Operation) (L R l r s t : ℤ → Bool) (lh rh keep : Bool) (from last l_last r_last : ℤ)
    → ((z : ℤ) → z <ℤ from → s z ≡ keeps_of operation (L z) (R z))
    → ((z : ℤ) → z <ℤ from → t z ≡ s z)
    → ((z : ℤ) → from ≤ℤ z → t z ≡ keep)
    → keep ≡ keeps_of operation lh rh
    → ((z : ℤ) → from ≤ℤ z → l z ≡ L z)
    → ((z : ℤ) → from ≤ℤ z → r z ≡ R z)
    → ((z : ℤ) → from ≤ℤ z → z ≤ℤ l_last → l z ≡ lh)
    → ((z : ℤ) → from ≤ℤ z → z ≤ℤ r_last → r z ≡ rh)
    → last ≤ℤ l_last → last ≤ℤ r_last
    → (z : ℤ) → z ≤ℤ last → t z ≡ keeps_of operation (L z) (R z)
swept_on operation L R l r s t lh rh keep from last l_last r_last kept before after is left right left_run right_run l_le r_le z below =
    by_lt_z z from
    (λ lt. before z lt ∙ kept z lt)
    (λ ge.
    let a : t z ≡ keep = after z ge in
    let b : l z ≡ L z = left z ge in
    let d : r z ≡ R z = right z ge in
    let e : l z ≡ lh = left_run z ge (omega (arith, ints)) in
    let f : r z ≡ rh = right_run z ge (omega (arith, ints)) in
    cc)

-- how many numbers of 128 bits there are from one on
abbrev pub count_from : ℤ → ℕ
count_from (pos n) = 170141183460469231731687303715884105728 - n
count_from (negsuc n) = 170141183460469231731687303715884105729 + n

-- there are fewer from a later number on
pub count_falls : (from later : ℤ) → from <ℤ later → from ≤ℤ GREATEST → count_from later < count_from from
count_falls (pos m) (pos n) lt le = omega (arith, ints)
count_falls (pos m) (negsuc n) lt le = absurd (omega (arith, ints))
count_falls (negsuc m) (pos n) lt le = omega (arith, ints)
count_falls (negsuc m) (negsuc n) lt le = omega (arith, ints)
