-- Integers of 128 bits: what is computed of them, and texts that spell them.
use Rattle.std.specs.Prelude.{ℕ, zero, suc, ℤ, pos, negsuc, neg_ℤ, ◌==◌, Bool, List, [], ◌∷◌}
use Rattle.std.specs.Prelude.{Option, Some, None, if◌then◌else◌}
use Rattle.std.specs.Char.{is_ascii_digit}
use Rattle.std.specs.List.{list_all}
use Rattle.cd_sets.specs.Interval.{is_between}
use Rattle.cd_syntax.specs.Digits.{decimal_value}
use Rattle.cd_syntax.specs.Integer.{LEAST, GREATEST}
use Rattle.cd_model.specs.Thing.{Thing, Integer}
use Rattle.cd_evaluation.specs.Runs.{Outcome, Done, Overflow, Stuck}

-- an integer of 128 bits
abbrev pub is_integer : ℤ → Bool
is_integer n = is_between LEAST GREATEST n

-- what was computed overflows where it is beyond 128 bits
abbrev pub computed : ℤ → Outcome
computed n = if is_integer n then Done (Integer n) else Overflow

-- nothing is divided by zero
abbrev pub divided : (ℤ → ℤ → ℤ) → ℤ → ℤ → Outcome
divided by n (pos zero) = Stuck
divided by n (pos (suc m)) = computed (by n (pos (suc m)))
divided by n (negsuc m) = computed (by n (negsuc m))

abbrev pub on_integers : (ℤ → ℤ → Outcome) → Thing → Thing → Outcome
on_integers next (Integer n) (Integer m) = next n m
on_integers next _ _ = Stuck

-- one digit or more
abbrev pub digits_value : List ℕ → Option ℤ
digits_value [] = None
digits_value (c ∷ text) =
    if list_all is_ascii_digit (c ∷ text) then Some (pos (decimal_value (c ∷ text))) else None

abbrev pub within_range : Option ℤ → Option ℤ
within_range None = None
within_range (Some n) = if is_integer n then Some n else None

abbrev pub negated : Option ℤ → Option ℤ
negated None = None
negated (Some n) = Some (neg_ℤ n)

-- the integer that a text spells: digits, and a `-` that may stand before them
abbrev pub spelled : List ℕ → Option ℤ
spelled [] = None
spelled (c ∷ text) =
    if c == 45 then within_range (negated (digits_value text))
    else within_range (digits_value (c ∷ text))
