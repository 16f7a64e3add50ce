-- Intervals in rising order, with at least one number between any two.
use Rattle.std.specs.Prelude.{ℤ, pos, ◌+ℤ◌, ◌≤ℤ◌, List, [], ◌∷◌}
use Rattle.cd_syntax.specs.Integer.{LEAST, GREATEST}
use Rattle.cd_sets.specs.declared.interval.Interval.{Interval}

-- the intervals hold a number each, begin at `from` or later, and each leaves a number free before
-- the next, or before `to`
abbrev pub Rises : ℤ → List Interval → ℤ → Type 0
Rises from [] to = from ≤ℤ to
Rises from (interval ∷ rest) to =
    (from ≤ℤ interval.low) × (interval.low ≤ℤ interval.high)
    × Rises (interval.high +ℤ pos 2) rest to

-- the intervals are of numbers of 128 bits, and rise
abbrev pub IsRising : List Interval → Type 0
IsRising intervals = Rises LEAST intervals (GREATEST +ℤ pos 2)
