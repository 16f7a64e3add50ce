-- What is computed of integers has 128 bits or overflows, a text spells integers of 128 bits alone, and the digits of an integer are
-- characters.
use Rattle.std.proofs.Common.{◌≡◌, ◌<◌, ℕ, zero, suc, ℤ, pos, negsuc, ◌≤ℤ◌, int_le, Bool, true, false, ◌&&◌, ◌==◌, List, [], ◌∷◌, Option, Some, None, T, refl, sym, subst, if◌then◌else◌, arith, decimal}
use Rattle.std.specs.Char.{IsScalar}
use Rattle.std.specs.Fmt.{signed_decimal}
use Rattle.std.specs.Str.{IsAscii}
use Rattle.std.proofs.lemmas.Fmt.{IsAscii-decimal_wide}
use Rattle.std.proofs.lemmas.Int.{ints}
use Rattle.std.proofs.lemmas.Str.Ascii.{IsAscii-cons}
use Rattle.cd_syntax.specs.Integer.{IsInteger, LEAST, GREATEST}
use Rattle.cd_model.specs.AllOf.{AllOf}
use Rattle.cd_model.specs.Thing.{Thing, Fields, Integer}
use Rattle.cd_evaluation.specs.Runs.{Outcome, Done, Overflow}
use Rattle.cd_evaluation.specs.Integers.{is_integer, computed, divided, on_integers, digits_value, within_range, negated, spelled}
use Rattle.cd_safety.specs.ByParts.{IsByParts, OutcomeOf}

both_true : (a b : Bool) → (a && b) ≡ true → (a ≡ true) × (b ≡ true)
both_true true true h = (refl, refl)
both_true true false h = absurd cc
both_true false b h = absurd cc

at_most : (a b : ℤ) → int_le a b ≡ true → a ≤ℤ b
at_most a b h = record { le = subst T (sym h) tt }

pub integer_is : (n : ℤ) → is_integer n ≡ true → IsInteger n
integer_is n h =
    let both = both_true (int_le LEAST n) (int_le n GREATEST) h in
    (at_most LEAST n both.0, at_most n GREATEST both.1)

-- the digits of an integer
low_scalar : (c : ℕ) → c < 128 → IsScalar c
low_scalar c low = grind arith

ascii_signed : (n : ℤ) → IsInteger n → IsAscii (signed_decimal n)
ascii_signed (pos n) is = IsAscii-decimal_wide n (omega (arith, ints))
ascii_signed (negsuc n) is = IsAscii-cons 45 (decimal (suc n)) (omega arith) (IsAscii-decimal_wide (suc n) (omega (arith, ints)))

each_scalar : (text : List ℕ) → IsAscii text → AllOf IsScalar text
each_scalar [] ascii = tt
each_scalar (c ∷ text) ascii = (low_scalar c (ascii 0), each_scalar text (λ i. ascii (suc i)))

pub digits_are : (n : ℤ) → IsInteger n → AllOf IsScalar (signed_decimal n)
digits_are n is = each_scalar (signed_decimal n) (ascii_signed n is)

-- what a text spells
abbrev IntegerIn : Option ℤ → Type 0
IntegerIn None = Unit {0}
IntegerIn (Some n) = IsInteger n

within_is : (found : Option ℤ) → IntegerIn (within_range found)
within_is None = tt
within_is (Some n) = by_test (is_integer n) refl
  where
    by_test : (fits : Bool) → is_integer n ≡ fits → IntegerIn (if fits then Some n else None)
    by_test true fits = integer_is n fits
    by_test false fits = tt

spelled_in : (text : List ℕ) → IntegerIn (spelled text)
spelled_in [] = tt
spelled_in (c ∷ text) = by_test (c == 45)
  where
    by_test : (minus : Bool)
        → IntegerIn (if minus then within_range (negated (digits_value text)) else within_range (digits_value (c ∷ text)))
    by_test true = within_is (negated (digits_value text))
    by_test false = within_is (digits_value (c ∷ text))

pub spelled_is : (text : List ℕ) (n : ℤ) → spelled text ≡ Some n → IsInteger n
spelled_is text n found = subst IntegerIn found (spelled_in text)

module _ (Of : Thing → Type 0) (OfFields : Fields → Type 0) (by_parts : IsByParts Of OfFields) where
  pub computed_good : (n : ℤ) → OutcomeOf Of (computed n)
  computed_good n = by_test (is_integer n) refl
    where
      by_test : (fits : Bool) → is_integer n ≡ fits → OutcomeOf Of (if fits then Done (Integer n) else Overflow)
      by_test true fits = (by_parts.integer n).1 (integer_is n fits)
      by_test false fits = tt

  pub divided_good : (compute : ℤ → ℤ → ℤ) (n m : ℤ) → OutcomeOf Of (divided compute n m)
  divided_good compute n (pos zero) = tt
  divided_good compute n (pos (suc m)) = computed_good (compute n (pos (suc m)))
  divided_good compute n (negsuc m) = computed_good (compute n (negsuc m))

  pub on_integers_good : (next : ℤ → ℤ → Outcome) → ((n m : ℤ) → OutcomeOf Of (next n m)) → (v w : Thing)
      → OutcomeOf Of (on_integers next v w)
  on_integers_good next good (Integer n) (Integer m) = good n m
  on_integers_good next good _ _ = tt
