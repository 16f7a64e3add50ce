-- The decimal digits of a number write that number.
use Rattle.std.proofs.Common.{◌≡◌, ◌∙◌, ℕ, ◌+◌, ◌-◌, ◌*◌, ◌/◌, ◌%◌, ◌^◌, ◌<◌, ◌≤◌, true, List, [], ◌∷◌, ◌++◌, length, refl, ap, arith}
use Rattle.std.specs.Prelude.{fold}
use Rattle.std.specs.Fmt.{decimal}
use Rattle.std.specs.List.{list_all}
use Rattle.std.specs.Char.{is_ascii_digit}
use Rattle.std.proofs.lemmas.Bool.Decides.{nat_tests}
use Rattle.std.proofs.lemmas.Fmt.{decimal_by_steps_wide, length-decimal-le_wide}
use Rattle.std.proofs.lemmas.List.{length_push}
use Rattle.std.proofs.lemmas.List.Folds.{list_all-append}
use Rattle.cd_syntax.specs.Digits.{AreDigits, decimal_value}

-- digits write a number
record Write (n : ℕ) (digits : List ℕ) : Type 0 where
  are : list_all is_ascii_digit digits ≡ true
  some : 0 < length digits
  value : decimal_value digits ≡ n

value_push : (start : ℕ) (digits : List ℕ) (c : ℕ)
    → fold (λ n c. n * 10 + (c - 48)) start (digits ++ c ∷ []) ≡ fold (λ n c. n * 10 + (c - 48)) start digits * 10 + (c - 48)
value_push start [] c = refl
value_push start (d ∷ digits) c = value_push (start * 10 + (d - 48)) digits c

is_digit : (d : ℕ) → d < 10 → is_ascii_digit (48 + d) ≡ true
is_digit d less = grind (arith, nat_tests)

one : (n : ℕ) → n < 10 → Write n ((48 + n) ∷ [])
one n less = record { are = rw (is_digit n less) refl; some = omega arith; value = omega arith }

more : (n : ℕ) (digits : List ℕ) → 10 ≤ n → Write (n / 10) digits → Write n (digits ++ ((48 + n % 10) ∷ []))
more n digits great write =
    let less : n % 10 < 10 = omega arith in
    record {
      are = list_all-append is_ascii_digit digits ((48 + n % 10) ∷ []) ∙ rw (write.are, is_digit (n % 10) less) refl;
      some = omega (arith, length_push digits (48 + n % 10));
      value = value_push 0 digits (48 + n % 10) ∙ omega (arith, write.value);
    }

writes : (n : ℕ) → n < 10 ^ 64 → Write n (decimal n)
writes n small = decimal_by_steps_wide Write one more n small

pub decimal_is : (n : ℕ) → n < 10 ^ 64 → decimal_value (decimal n) ≡ n
decimal_is n small = (writes n small).value

no_digits : (digits : List ℕ) → 0 < length digits → digits ≡ [] → ⊥
no_digits digits some none = omega (arith, ap length none)

pub are_digits : (n : ℕ) → n < 10 ^ 64 → AreDigits (decimal n)
are_digits n small = ((writes n small).are, no_digits (decimal n) (writes n small).some)

pub is_short : (n : ℕ) → n < 1000 → length (decimal n) ≤ 7
is_short n small = let short = length-decimal-le_wide 3 n (omega arith) (omega arith) (omega arith) in omega arith
