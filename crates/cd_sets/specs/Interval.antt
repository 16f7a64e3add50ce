-- What a list of intervals holds.
use Rattle.std.specs.Prelude.{◌≡◌, ℤ, Bool, false, ◌&&◌, List, int_le}
use Rattle.std.specs.List.{list_any}
use Rattle.cd_sets.specs.declared.interval.Interval.{Interval}

-- the number is from the one bound to the other
abbrev pub is_between : ℤ → ℤ → ℤ → Bool
is_between low high z = int_le low z && int_le z high

-- one of the intervals holds the number
abbrev pub holds : List Interval → ℤ → Bool
holds intervals z = list_any (λ interval. is_between interval.low interval.high z) intervals

-- none of the intervals holds a number
abbrev pub HoldsNothing : List Interval → Type 0
HoldsNothing intervals = (z : ℤ) → holds intervals z ≡ false

-- both bounds of an interval
abbrev pub bounds_of : Interval → ℤ × ℤ
bounds_of interval = (interval.low, interval.high)
