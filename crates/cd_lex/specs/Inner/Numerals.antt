-- The number that stands at the start of a text, without a sign, as it is read.
use Rattle.std.specs.Prelude.{ℕ, ◌==◌, Bool, List, [], ◌∷◌, if◌then◌else◌}
use Rattle.cd_syntax.specs.Digits.{decimal_value, hexadecimal_value, goes_on_number}
use Rattle.cd_lex.specs.Inner.Prefixes.{first_digits, after_digits}

-- the characters at the start of a text with which a number goes on, and what is left
abbrev pub split : (List ℕ → Bool) → List ℕ → List ℕ × List ℕ
split goes [] = ([], [])
split goes (c ∷ text) =
    if goes (c ∷ text) then (c ∷ (split goes text).0, (split goes text).1) else ([], c ∷ text)

-- the hexadecimal digits that stand at the start, with the `_` between them, and what is left
abbrev pub first_hexadecimal : List ℕ → List ℕ
first_hexadecimal text = (split goes_on_number text).0

abbrev pub after_hexadecimal : List ℕ → List ℕ
after_hexadecimal text = (split goes_on_number text).1

-- where a number begins: what writes it, what it is, and what is left after it
abbrev pub first_number : List ℕ → List ℕ
first_number [] = []
first_number (c ∷ text) =
    if c == 35 then 35 ∷ first_hexadecimal text else first_digits (c ∷ text)

abbrev pub number_at : List ℕ → ℕ
number_at [] = 0
number_at (c ∷ text) =
    if c == 35 then hexadecimal_value (first_hexadecimal text)
    else decimal_value (first_digits (c ∷ text))

abbrev pub after_number : List ℕ → List ℕ
after_number [] = []
after_number (c ∷ text) = if c == 35 then after_hexadecimal text else after_digits (c ∷ text)
