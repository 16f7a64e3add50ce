-- The numbers that digits write.
use Rattle.std.specs.Prelude.{◌≡◌, ℕ, ℤ, pos, neg_ℤ, ◌+◌, ◌-◌, ◌*◌, Bool, true, false, List, fold}
use Rattle.std.specs.Prelude.{Option, MatchOption}
use Rattle.cd_syntax.specs.Integer.{IsInteger}

-- the value of digits after others with this value
abbrev pub number_after : ℕ → List ℕ → ℕ
number_after n digits = fold (λ m c. m * 10 + (c - 48)) n digits

-- a number, with a minus or without
abbrev pub with_sign : Bool → ℕ → ℤ
with_sign true n = neg_ℤ (pos n)
with_sign false n = pos n

-- a number is found exactly when it fits 128 bits
abbrev pub FindsInteger : Option ℤ → ℤ → Type 0
FindsInteger found value =
    MatchOption found (IsInteger value → ⊥) (λ n. (n ≡ value) × IsInteger value)
