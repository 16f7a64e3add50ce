-- Digits are taken off a text one character after the other.
use Rattle.std.proofs.Common.{◌≡◌, ℕ, suc, ◌+◌, ◌-◌, ◌*◌, ◌≤◌, ◌<◌, ◌^◌, Bool, true, List, [], ◌∷◌, refl, sym, ap, ◌∙◌, length, drop, arith}
use Rattle.std.specs.Prelude.{take_while}
use Rattle.std.specs.Char.{is_ascii_digit}
use Rattle.cd_syntax.specs.Digits.{BeginsWithNoDigit}
use Rattle.cd_lex.specs.Inner.Prefixes.{after, first_digits, after_digits}
use Rattle.cd_lex.specs.Inner.Number.{number_after}
use Rattle.cd_lex.proofs.Wording.{taken_first, taken_none}

-- what is left after what passes
pub after_one : (p : ℕ → Bool) (c : ℕ) (rest : List ℕ) → p c ≡ true
    → after p (c ∷ rest) ≡ after p rest
after_one p c rest is = ap (λ prefix. drop (length prefix) (c ∷ rest)) (taken_first p c rest is)

pub after_none : (p : ℕ → Bool) (text : List ℕ) → take_while p text ≡ [] → after p text ≡ text
after_none p text none = ap (λ prefix. drop (length prefix) text) none

no_digits_taken : (text : List ℕ) → BeginsWithNoDigit text → first_digits text ≡ []
no_digits_taken [] ends = refl
no_digits_taken (c ∷ rest) ends = taken_none is_ascii_digit c rest ends

-- more digits make no smaller number
pub number_after_le : (n : ℕ) (digits : List ℕ) → n ≤ number_after n digits
number_after_le n [] = omega arith
number_after_le n (c ∷ cs) = let rest = number_after_le (n * 10 + (c - 48)) cs in omega arith

-- the digits that are left make this number of the one so far, and this is left after them
abbrev pub DigitsGoOn : (number : ℕ) (rest : List ℕ) (so_far : ℕ) (left : List ℕ) → Type 0
DigitsGoOn number rest so_far left = (number_after so_far (first_digits left) ≡ number) × (after_digits left ≡ rest)

pub digits_begin : (c n : ℕ) (left : List ℕ) → is_ascii_digit c ≡ true → n ≡ c - 48
    → DigitsGoOn (number_after 0 (first_digits (c ∷ left))) (after_digits (c ∷ left)) n left
digits_begin c n left digit is = (
  ap (λ n. number_after n (first_digits left)) (omega arith) ∙ ap (number_after 0) (sym (taken_first is_ascii_digit c left digit)),
  sym (after_one is_ascii_digit c left digit),
)

pub digits_go_on : (number : ℕ) (rest : List ℕ) (so_far then c : ℕ) (left new : List ℕ) → DigitsGoOn number rest so_far left → left ≡ c ∷ new → is_ascii_digit c ≡ true
    → then ≡ so_far * 10 + (c - 48) → DigitsGoOn number rest then new
digits_go_on number rest so_far then c left new so at digit is = (
  ap (λ n. number_after n (first_digits new)) is ∙ ap (number_after so_far) (sym (taken_first is_ascii_digit c new digit) ∙ ap first_digits (sym at)) ∙ so.0,
  sym (after_one is_ascii_digit c new digit) ∙ ap after_digits (sym at) ∙ so.1,
)

pub digits_end : (number : ℕ) (rest : List ℕ) (so_far : ℕ) (left : List ℕ) → DigitsGoOn number rest so_far left → BeginsWithNoDigit left → (so_far ≡ number) × (left ≡ rest)
digits_end number rest so_far left so ends =
    let none = no_digits_taken left ends in
    (ap (number_after so_far) (sym none) ∙ so.0, sym (after_none is_ascii_digit left none) ∙ so.1)

-- a digit more makes the number too wide
pub too_wide : (number : ℕ) (rest : List ℕ) (so_far c : ℕ) (left new : List ℕ) → DigitsGoOn number rest so_far left → left ≡ c ∷ new → is_ascii_digit c ≡ true
    → 17014118346046923173168730371588410572 < so_far → 2 ^ 127 < number
too_wide number rest so_far c left new so at digit past =
    let on = (digits_go_on number rest so_far (so_far * 10 + (c - 48)) c left new so at digit refl).0 in
    let most = number_after_le (so_far * 10 + (c - 48)) (first_digits new) in
    omega arith

-- so many digits are read
pub one_digit_more : (count c : ℕ) (left new : List ℕ) → left ≡ c ∷ new → is_ascii_digit c ≡ true → count + length (first_digits left) ≡ count + 1 + length (first_digits new)
one_digit_more count c left new at digit =
    let more : length (first_digits left) ≡ suc (length (first_digits new)) = ap (λ text. length (first_digits text)) at ∙ ap length (taken_first is_ascii_digit c new digit) in
    omega arith

pub no_digit_more : (left : List ℕ) → BeginsWithNoDigit left → length (first_digits left) ≡ 0
no_digit_more left ends = ap length (no_digits_taken left ends)

pub first_and_more : (c : ℕ) (left : List ℕ) → is_ascii_digit c ≡ true → length (first_digits (c ∷ left)) ≡ 1 + length (first_digits left)
first_and_more c left digit = let more = ap length (taken_first is_ascii_digit c left digit) in omega arith
