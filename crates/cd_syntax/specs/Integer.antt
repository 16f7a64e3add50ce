-- The integers of the language: those of 128 bits.
use Rattle.std.specs.Prelude.{ℤ, pos, negsuc, ◌≤ℤ◌}

-- -170141183460469231731687303715884105728
abbrev pub LEAST : ℤ
LEAST = negsuc 170141183460469231731687303715884105727

-- 170141183460469231731687303715884105727
abbrev pub GREATEST : ℤ
GREATEST = pos 170141183460469231731687303715884105727

-- an integer of 128 bits
abbrev pub IsInteger : ℤ → Type 0
IsInteger n = (LEAST ≤ℤ n) × (n ≤ℤ GREATEST)
