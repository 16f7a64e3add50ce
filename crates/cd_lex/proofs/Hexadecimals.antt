-- Hexadecimal digits are taken off a text one character after the other.
use Rattle.std.proofs.Common.{◌≡◌, ℕ, ◌+◌, ◌*◌, ◌≤◌, ◌<◌, ◌^◌, ◌==◌, Bool, true, false, List, [], ◌∷◌, Option, None, MatchOption, refl, sym, ap, subst, ◌∙◌, arith}
use Rattle.std.specs.Prelude.{fold, if◌then◌else◌}
use Rattle.cd_syntax.specs.Digits.{goes_on_number, with_hexadecimal, hexadecimal_digit}
use Rattle.cd_lex.specs.Inner.Numerals.{first_hexadecimal, after_hexadecimal}
use Rattle.cd_lex.proofs.Splitting.{split_more}

-- more characters make no smaller number
one_more : (n c : ℕ) → n ≤ with_hexadecimal n c
one_more n c = by (c == 95)
  where
    by : (b : Bool) → n ≤ (if b then n else n * 16 + hexadecimal_digit c)
    by true = omega arith
    by false = omega arith

number_on_le : (n : ℕ) (digits : List ℕ) → n ≤ fold with_hexadecimal n digits
number_on_le n [] = omega arith
number_on_le n (c ∷ digits) =
    let one = one_more n c in
    let rest = number_on_le (with_hexadecimal n c) digits in
    omega arith

-- the characters that are left make this number of the one so far, and this is left after them
abbrev pub HexadecimalGoesOn : (number : ℕ) (rest : List ℕ) (so_far : ℕ) (left : List ℕ) → Type 0
HexadecimalGoesOn number rest so_far left =
    (fold with_hexadecimal so_far (first_hexadecimal left) ≡ number)
    × (after_hexadecimal left ≡ rest)

pub hexadecimal_goes_on : (number : ℕ) (rest : List ℕ) (so_far next c : ℕ) (left new : List ℕ)
    → HexadecimalGoesOn number rest so_far left → left ≡ c ∷ new → goes_on_number (c ∷ new) ≡ true
    → next ≡ with_hexadecimal so_far c → HexadecimalGoesOn number rest next new
hexadecimal_goes_on number rest so_far next c left new so at goes is =
    let more = split_more goes_on_number c new goes in (
      ap (λ n. fold with_hexadecimal n (first_hexadecimal new)) is
          ∙ sym (ap (λ p. fold with_hexadecimal so_far p.0) more)
          ∙ sym (ap (λ left. fold with_hexadecimal so_far (first_hexadecimal left)) at) ∙ so.0,
      sym (ap (λ p. p.1) more) ∙ sym (ap after_hexadecimal at) ∙ so.1,
    )

-- a character more makes the number too wide
pub hexadecimal_too_wide : (number : ℕ) (rest : List ℕ) (so_far c : ℕ) (left new : List ℕ)
    → HexadecimalGoesOn number rest so_far left → left ≡ c ∷ new → goes_on_number (c ∷ new) ≡ true
    → 2 ^ 127 < with_hexadecimal so_far c → 2 ^ 127 < number
hexadecimal_too_wide number rest so_far c left new so at goes past =
    let on = (hexadecimal_goes_on number rest so_far (with_hexadecimal so_far c) c left new so at
    goes refl).0 in
    let most = number_on_le (with_hexadecimal so_far c) (first_hexadecimal new) in
    omega arith

pub none_wide : (found : Option ℕ) (number : ℕ) → found ≡ None → 2 ^ 127 < number
    → MatchOption found (2 ^ 127 < number) (λ n. n ≡ number)
none_wide found number is wide =
    subst (λ found. MatchOption found (2 ^ 127 < number) (λ n. n ≡ number)) (sym is) wide
