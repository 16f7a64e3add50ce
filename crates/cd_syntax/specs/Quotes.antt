-- What stands between two quotes of a kind: characters and escapes.
use Rattle.std.specs.Prelude.{◌≡◌, ◌≢◌, ℕ, ◌≤◌, false, List, [], ◌∷◌, ◌++◌, length}
use Rattle.std.specs.Char.{IsScalar, is_ascii_digit}
use Rattle.cd_syntax.specs.Digits.{AreDigits, decimal_value, BeginsWithNoDigit}

-- `n`, `r`, `t`, `\`, `'` or `"` after a `\`, and the character that this stands for
pub data IsEscapeLetter : ℕ → ℕ → Type 0 where
  line_feed : IsEscapeLetter 110 10
  carriage_return : IsEscapeLetter 114 13
  tab : IsEscapeLetter 116 9
  backslash : IsEscapeLetter 92 92
  apostrophe : IsEscapeLetter 39 39
  quote : IsEscapeLetter 34 34

-- 1 to 7 digits whose value is that of a character
pub record IsCode (written : List ℕ) : Type 0 where
  pub digits : AreDigits written
  pub few : length written ≤ 7
  pub scalar : IsScalar (decimal_value written)

-- what is written stands for these characters
pub data Quotes (quote : ℕ) : (written characters : List ℕ) → Type 0 where
  nothing : Quotes quote [] []
  -- any character but the quote and `\` stands for itself
  itself : (c : ℕ) (written characters : List ℕ) → c ≢ quote → c ≢ 92
      → Quotes quote written characters → Quotes quote (c ∷ written) (c ∷ characters)
  letter : (letter c : ℕ) (written characters : List ℕ) → IsEscapeLetter letter c
      → Quotes quote written characters → Quotes quote (92 ∷ letter ∷ written) (c ∷ characters)
  -- `\`, digits, `;`
  code : (digits written characters : List ℕ) → IsCode digits → Quotes quote written characters
      → Quotes quote (92 ∷ digits ++ 59 ∷ written) (decimal_value digits ∷ characters)

-- the text begins with a `\` that no escape can begin with, however the text goes on
pub data BeginsNoEscape : List ℕ → Type 0 where
  no_letter : (c : ℕ) (rest : List ℕ) → is_ascii_digit c ≡ false
      → ((meant : ℕ) → IsEscapeLetter c meant → ⊥) → BeginsNoEscape (92 ∷ c ∷ rest)
  -- all the digits that stand there are no code
  no_code : (digits rest : List ℕ) → AreDigits digits → BeginsWithNoDigit rest → (IsCode digits → ⊥)
      → BeginsNoEscape (92 ∷ digits ++ rest)
  -- or another character than `;` follows them
  no_semicolon : (digits : List ℕ) (c : ℕ) (rest : List ℕ) → AreDigits digits
      → is_ascii_digit c ≡ false → c ≢ 59 → BeginsNoEscape (92 ∷ digits ++ c ∷ rest)

-- the end of a text in an escape that could go on, or in none
pub data EndsHalf : List ℕ → Type 0 where
  nothing : EndsHalf []
  alone : EndsHalf (92 ∷ [])
  code : (digits : List ℕ) → IsCode digits → EndsHalf (92 ∷ digits)
