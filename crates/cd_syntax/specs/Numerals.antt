-- Numbers without a sign, as they are written.
use Rattle.std.specs.Prelude.{◌≡◌, ℕ, ◌==◌, ◌||◌, ◌&&◌, Bool, false, List, [], ◌∷◌}
use Rattle.std.specs.Char.{is_ascii_digit}
use Rattle.cd_syntax.specs.Digits.{AreDigits, decimal_value, BeginsWithNoDigit}
use Rattle.cd_syntax.specs.Digits.{begins_hexadecimal, goes_on_number, AreHexadecimal}
use Rattle.cd_syntax.specs.Digits.{hexadecimal_value}

-- What is written is all of a number, with the text after it: decimal digits, or `#` and
-- hexadecimal ones, as many as there are
pub data IsNumeral : (written text : List ℕ) → ℕ → Type 0 where
  decimal : (digits text : List ℕ) → AreDigits digits → BeginsWithNoDigit text
      → IsNumeral digits text (decimal_value digits)
  hexadecimal : (digits text : List ℕ) → AreHexadecimal digits → goes_on_number text ≡ false
      → IsNumeral (35 ∷ digits) text (hexadecimal_value digits)

-- a number stands first, without a sign; and with a `-`
abbrev pub begins_number : List ℕ → Bool
begins_number [] = false
begins_number (c ∷ text) = is_ascii_digit c || ((c == 35) && begins_hexadecimal text)

abbrev pub begins_negative : List ℕ → Bool
begins_negative [] = false
begins_negative (c ∷ text) = (c == 45) && begins_number text
