-- The digits of a text are read one after the other.
use Rattle.std.proofs.Common.{◌≡◌, ◌∙◌, refl, sym, ap, arith, ℕ, ◌+◌, ◌-◌, ◌*◌, ◌≤◌, ◌<◌, ◌^◌, Bool, true, false, List, [], ◌∷◌, fold, length, true≢false}
use Rattle.std.specs.Prelude.{◌&&◌}
use Rattle.std.specs.Char.{is_ascii_digit}
use Rattle.std.specs.List.{list_all}
use Rattle.cd_syntax.specs.Digits.{decimal_value}
use Rattle.cd_operations.specs.Inner.Spelling.{are_digits}

-- the value of digits after others with this value
abbrev after : ℕ → List ℕ → ℕ
after n digits = fold (λ m c. m * 10 + (c - 48)) n digits

-- more digits make no smaller number
after_le : (n : ℕ) (digits : List ℕ) → n ≤ after n digits
after_le n [] = omega arith
after_le n (c ∷ cs) = let rest = after_le (n * 10 + (c - 48)) cs in omega arith

-- these digits are left after a number
pub record IsReading (text : List ℕ) (value : ℕ) (left : List ℕ) : Type 0 where
  pub digits : list_all is_ascii_digit left ≡ true
  pub goes : after value left ≡ decimal_value text
  pub small : value < 2 ^ 128

both_are : (a b : Bool) → (a && b) ≡ true → (a ≡ true) × (b ≡ true)
both_are true b is = (refl, is)
both_are false b is = absurd (true≢false (sym is))

module _ (text : List ℕ) (value c : ℕ) (left rest : List ℕ) (is : left ≡ c ∷ rest) (reading : IsReading text value left) where
  digits : (is_ascii_digit c ≡ true) × (list_all is_ascii_digit rest ≡ true)
  digits = both_are (is_ascii_digit c) (list_all is_ascii_digit rest) (ap (list_all is_ascii_digit) (sym is) ∙ reading.digits)

  goes_on : after (value * 10 + (c - 48)) rest ≡ decimal_value text
  goes_on = ap (after value) (sym is) ∙ reading.goes

  pub too_wide : 17014118346046923173168730371588410572 < value → 2 ^ 127 < decimal_value text
  too_wide past =
      let most = after_le (value * 10 + (c - 48)) rest in
      let on = goes_on in
      omega arith

pub some_digits : (text : List ℕ) → 1 ≤ length text → list_all is_ascii_digit text ≡ are_digits text
some_digits [] some = absurd (omega arith)
some_digits (c ∷ text) some = refl
