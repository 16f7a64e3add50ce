-- Counts of faults: each rises with a fault, and stays at its end.
use Rattle.std.specs.Prelude.{◌≡◌, ℕ, ◌+◌, ◌<◌, ◌⊎◌, min}

-- the largest number of 64 bits, at which a count stays
abbrev pub END : ℕ
END = 18446744073709551615

-- a count rose in a call: it is greater after the call, or stands at its end
abbrev pub Rose : ℕ → ℕ → Type 0
Rose before after = (before < after) ⊎ (after ≡ END)

-- the count with one fault more
abbrev pub one_more : ℕ → ℕ
one_more count = min (count + 1) END
