-- The set operations, and the states of the sweep that makes them.
use Rattle.std.specs.Prelude.{ℤ, pos, ◌+ℤ◌, ◌≤ℤ◌, ◌<ℤ◌, Bool, ◌&&◌, ◌||◌, not, List, [], ◌∷◌}
use Rattle.std.specs.Prelude.{Option, Some, None, int_le}
use Rattle.cd_sets.specs.declared.interval.Interval.{Interval}
use Rattle.cd_sets.specs.declared.combine.Operation.{Operation}
use Rattle.cd_sets.specs.declared.combine.Operation.TheVariants.{Union, Intersection}
use Rattle.cd_sets.specs.declared.combine.Operation.TheVariants.{Difference}
use Rattle.cd_sets.specs.Interval.{holds}
use Rattle.cd_syntax.specs.Integer.{LEAST, GREATEST}
use Rattle.cd_sets.specs.Rises.{Rises}

-- whether the operation keeps a number that the left set holds or not, and the right one
abbrev pub keeps_of : Operation → Bool → Bool → Bool
keeps_of Union left right = left || right
keeps_of Intersection left right = left && right
keeps_of Difference left right = left && not right

-- the intervals that matter from a number on: they rise, and the first doesn't end before it
abbrev pub IsAhead : ℤ → List Interval → Type 0
IsAhead from [] = Unit {0}
IsAhead from (interval ∷ rest) =
    (from ≤ℤ interval.high) × (interval.low ≤ℤ interval.high)
    × Rises (interval.high +ℤ pos 2) rest (GREATEST +ℤ pos 2)

-- what a sweep has kept so far: its intervals, and all numbers from the one at which an interval is
-- open
abbrev pub swept : List Interval → Option ℤ → ℤ → Bool
swept kept None z = holds kept z
swept kept (Some low) z = holds kept z || int_le low z

-- the intervals rise, and the open one begins before the number that the sweep has come to
abbrev pub IsSwept : List Interval → Option ℤ → ℤ → Type 0
IsSwept kept None from = Rises LEAST kept from
IsSwept kept (Some low) from = (low <ℤ from) × Rises LEAST kept low

-- the number that the sweep has come to; it is past the greatest where there is no next one
abbrev pub come_to : Option ℤ → ℤ
come_to None = GREATEST +ℤ pos 1
come_to (Some from) = from
