-- What intervals that rise hold, and how they grow at their end.
use Rattle.std.proofs.Common.{◌≡◌, ℤ, pos, ◌+ℤ◌, ◌≤ℤ◌, ◌<ℤ◌, false, ◌||◌, List, [], ◌∷◌, ◌++◌, refl, arith}
use Rattle.std.proofs.lemmas.Int.{ints}
use Rattle.cd_sets.specs.declared.interval.Interval.{Interval}
use Rattle.cd_sets.specs.Interval.{is_between, holds}
use Rattle.cd_sets.specs.Rises.{Rises}

-- intervals that begin at `from` or later hold nothing before it
pub holds_before : (from : ℤ) (xs : List Interval) (to z : ℤ) → Rises from xs to → z <ℤ from → holds xs z ≡ false
holds_before from [] to z rises below = refl
holds_before from (x ∷ xs) to z rises below =
    let later : z <ℤ (x.high +ℤ pos 2) = omega (arith, ints) in
    let rest = holds_before (x.high +ℤ pos 2) xs to z rises.2 later in
    grind (arith, ints)

-- one more interval at the end
pub rises_append : (from : ℤ) (xs : List Interval) (to : ℤ) (x : Interval) → Rises from xs to → to ≤ℤ x.low → x.low ≤ℤ x.high → Rises from (xs ++ x ∷ []) (x.high +ℤ pos 2)
rises_append from [] to x rises low high = (omega (arith, ints), high, omega (arith, ints))
rises_append from (y ∷ ys) to x rises low high = (rises.0, rises.1, rises_append (y.high +ℤ pos 2) ys to x rises.2 low high)

-- the end may be known later
pub rises_later : (from : ℤ) (xs : List Interval) (to later : ℤ) → Rises from xs to → to ≤ℤ later → Rises from xs later
rises_later from [] to later rises le = omega (arith, ints)
rises_later from (x ∷ xs) to later rises le = (rises.0, rises.1, rises_later (x.high +ℤ pos 2) xs to later rises.2 le)

-- what a list with one more interval holds
pub holds_append : (xs : List Interval) (x : Interval) (z : ℤ) → holds (xs ++ x ∷ []) z ≡ (holds xs z || is_between x.low x.high z)
holds_append [] x z = grind arith
holds_append (y ∷ ys) x z = let rest = holds_append ys x z in grind (arith, rest)

-- intervals that rise to an end hold nothing from the number before it on
pub rises_bounds : (from : ℤ) (xs : List Interval) (to : ℤ) → Rises from xs to → from ≤ℤ to
rises_bounds from [] to rises = rises
rises_bounds from (x ∷ xs) to rises =
    let rest = rises_bounds (x.high +ℤ pos 2) xs to rises.2 in
    let low : from ≤ℤ x.low = rises.0 in
    let high : x.low ≤ℤ x.high = rises.1 in
    omega (arith, ints)

pub holds_after : (from : ℤ) (xs : List Interval) (to z : ℤ) → Rises from xs to → to ≤ℤ (z +ℤ pos 1) → holds xs z ≡ false
holds_after from [] to z rises above = refl
holds_after from (x ∷ xs) to z rises above =
    let end = rises_bounds (x.high +ℤ pos 2) xs to rises.2 in
    let rest = holds_after (x.high +ℤ pos 2) xs to z rises.2 above in
    let past : x.high <ℤ z = omega (arith, ints) in
    grind (arith, ints)
