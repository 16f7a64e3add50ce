-- The number that stands at the start of a text.
use Rattle.std.proofs.Common.{◌≡◌, ℕ, ◌<◌, ◌==◌, Bool, true, false, true≢false, List, [], ◌∷◌, ◌++◌, refl, sym, ap, ◌∙◌, ◌⊎◌, inl, inr, length, drop, arith}
use Rattle.std.specs.Prelude.{◌&&◌, ◌||◌, if◌then◌else◌}
use Rattle.std.specs.Char.{is_ascii_digit, is_ascii_hexdigit}
use Rattle.std.specs.List.{list_all}
use Rattle.std.proofs.Math.Seq.{drop-append_seam}
use Rattle.std.proofs.lemmas.Bool.{and_parts, and_from, or_cases, cases_Bool, cond-false, eqb-true}
use Rattle.cd_syntax.specs.Digits.{decimal_value, begins_hexadecimal, goes_on_number, goes_on_through, AreHexadecimal, hexadecimal_value}
use Rattle.cd_syntax.specs.Numerals.{IsNumeral, decimal, hexadecimal, begins_number}
use Rattle.cd_lex.specs.Inner.Prefixes.{first_digits, after_digits}
use Rattle.cd_lex.specs.Inner.Numerals.{split, first_hexadecimal, after_hexadecimal, first_number, number_at, after_number}
use Rattle.cd_lex.proofs.Wording.{digits_stand, digits_taken, taken_and_rest}
use Rattle.cd_lex.proofs.Splitting.{through, split_more, split_written, together, ends, passes}

same_through : (digits : List ℕ) → goes_on_through digits ≡ through goes_on_number digits
same_through [] = refl
same_through (c ∷ digits) = ap (λ b. goes_on_number (c ∷ digits) && b) (same_through digits)

or_first : (a b : Bool) → a ≡ true → (a || b) ≡ true
or_first true b is = refl
or_first false b is = absurd (true≢false (sym is))

or_second : (a b : Bool) → b ≡ true → (a || b) ≡ true
or_second true b is = refl
or_second false b is = is

-- what stands first stays first where more follows
begins_longer : (written rest : List ℕ) → begins_hexadecimal written ≡ true
    → begins_hexadecimal (written ++ rest) ≡ true
begins_longer [] rest is = absurd (true≢false (sym is))
begins_longer (c ∷ written) rest is = is

longer : (c : ℕ) (written rest : List ℕ) → goes_on_number (c ∷ written) ≡ true
    → goes_on_number (c ∷ written ++ rest) ≡ true
longer c written rest is =
    by (or_cases (is_ascii_hexdigit c) ((c == 95) && begins_hexadecimal written) is)
  where
    by : (is_ascii_hexdigit c ≡ true) ⊎ (((c == 95) && begins_hexadecimal written) ≡ true)
        → goes_on_number (c ∷ written ++ rest) ≡ true
    by (inl digit) = or_first _ _ digit
    by (inr line) =
        let parts = and_parts (c == 95) (begins_hexadecimal written) line in
        or_second _ _ (and_from (c == 95) (begins_hexadecimal (written ++ rest)) parts.0
        (begins_longer written rest parts.1))

-- what is split off begins and goes on as the text does
begins_kept : (text : List ℕ) → begins_hexadecimal text ≡ true
    → begins_hexadecimal (first_hexadecimal text) ≡ true
begins_kept [] is = absurd (true≢false (sym is))
begins_kept (c ∷ text) is =
    ap (λ p. begins_hexadecimal p.0) (split_more goes_on_number c text (or_first _ _ is)) ∙ is

near : (c : ℕ) (text : List ℕ) → goes_on_number (c ∷ text) ≡ true
    → goes_on_number (c ∷ first_hexadecimal text) ≡ true
near c text is = by (or_cases (is_ascii_hexdigit c) ((c == 95) && begins_hexadecimal text) is)
  where
    by : (is_ascii_hexdigit c ≡ true) ⊎ (((c == 95) && begins_hexadecimal text) ≡ true)
        → goes_on_number (c ∷ first_hexadecimal text) ≡ true
    by (inl digit) = or_first _ _ digit
    by (inr line) =
        let parts = and_parts (c == 95) (begins_hexadecimal text) line in
        or_second _ _ (and_from (c == 95) (begins_hexadecimal (first_hexadecimal text))
        parts.0 (begins_kept text parts.1))

hexadecimal_stands : (text : List ℕ) → begins_hexadecimal text ≡ true
    → IsNumeral (35 ∷ first_hexadecimal text) (after_hexadecimal text)
    (hexadecimal_value (first_hexadecimal text))
hexadecimal_stands text is =
    hexadecimal (first_hexadecimal text) (after_hexadecimal text)
    (and_from (begins_hexadecimal (first_hexadecimal text))
    (goes_on_through (first_hexadecimal text)) (begins_kept text is)
    (same_through (first_hexadecimal text) ∙ passes goes_on_number near text))
    (ends goes_on_number refl text)

hexadecimal_split : (digits text : List ℕ) → AreHexadecimal digits
    → goes_on_number text ≡ false → split goes_on_number (digits ++ text) ≡ (digits, text)
hexadecimal_split digits text are none =
    let parts = and_parts (begins_hexadecimal digits) (goes_on_through digits) are in
    split_written goes_on_number longer digits text (sym (same_through digits) ∙ parts.1) none

-- a digit is no `#`
pub digit_unmarked : (c : ℕ) → is_ascii_digit c ≡ true → (c == 35) ≡ false
digit_unmarked c digit = by (cases_Bool (c == 35))
  where
    by : ((c == 35) ≡ true) ⊎ ((c == 35) ≡ false) → (c == 35) ≡ false
    by (inl mark) = absurd (true≢false (sym digit ∙ ap is_ascii_digit (eqb-true c 35 mark)))
    by (inr none) = none

-- where a digit stands, a number begins, and it is decimal
pub digit_begins : (c : ℕ) (text : List ℕ) → is_ascii_digit c ≡ true
    → begins_number (c ∷ text) ≡ true
digit_begins c text digit = or_first _ _ digit

pub decimal_at : (c : ℕ) (text : List ℕ) → is_ascii_digit c ≡ true
    → (decimal_value (first_digits (c ∷ text)) ≡ number_at (c ∷ text))
    × (after_digits (c ∷ text) ≡ after_number (c ∷ text))
decimal_at c text digit =
    let none = digit_unmarked c digit in
    (sym (cond-false (c == 35) _ _ none), sym (cond-false (c == 35) _ _ none))

first_of : (a b : Bool) → b ≡ false → (a || b) ≡ true → a ≡ true
first_of true b none is = refl
first_of false b none is = absurd (true≢false (sym is ∙ none))

-- where a number begins, it stands
pub number_stands : (text : List ℕ) → begins_number text ≡ true
    → (text ≡ first_number text ++ after_number text)
    × IsNumeral (first_number text) (after_number text) (number_at text)
number_stands [] is = absurd (true≢false (sym is))
number_stands (c ∷ text) is = by (c == 35) refl
  where
    by : (b : Bool) → (c == 35) ≡ b
        → (c ∷ text ≡ (if b then 35 ∷ first_hexadecimal text else first_digits (c ∷ text))
        ++ (if b then after_hexadecimal text else after_digits (c ∷ text)))
        × IsNumeral (if b then 35 ∷ first_hexadecimal text else first_digits (c ∷ text))
        (if b then after_hexadecimal text else after_digits (c ∷ text))
        (if b then hexadecimal_value (first_hexadecimal text)
        else decimal_value (first_digits (c ∷ text)))
    by true marked =
        let same = eqb-true c 35 marked in (
          ap (λ c. c ∷ text) same ∙ ap (λ rest. 35 ∷ rest) (together goes_on_number text),
          hexadecimal_stands text (sym (ap (λ c. begins_number (c ∷ text)) same) ∙ is),
        )
    by false unmarked =
        let unmarked_too : ((c == 35) && begins_hexadecimal text) ≡ false =
        ap (λ b. b && begins_hexadecimal text) unmarked in
        let stood = digits_stand (c ∷ text) c text refl (first_of (is_ascii_digit c) _ unmarked_too is) in (
          taken_and_rest is_ascii_digit (c ∷ text),
          decimal (first_digits (c ∷ text)) (after_digits (c ∷ text)) stood.0 stood.1,
        )

-- a number that stands at the start of a text is the one that is read there
pub record IsFirst (written rest : List ℕ) (n : ℕ) : Type 0 where
  pub writes : first_number (written ++ rest) ≡ written
  pub leaves : after_number (written ++ rest) ≡ rest
  pub value : number_at (written ++ rest) ≡ n
  pub begins : begins_number (written ++ rest) ≡ true

pub number_is_first : (written rest : List ℕ) (n : ℕ) → IsNumeral written rest n
    → IsFirst written rest n
number_is_first _ _ _ (decimal [] rest are none) = absurd (are.1 refl)
number_is_first _ _ _ (decimal (c ∷ digits) rest are none) =
    let digit : is_ascii_digit c ≡ true =
    (and_parts (is_ascii_digit c) (list_all is_ascii_digit digits) are.0).0 in
    let unmarked = digit_unmarked c digit in
    let taken = digits_taken (c ∷ digits) rest are none in
    record {
      writes = cond-false (c == 35) _ _ unmarked ∙ taken;
      leaves = cond-false (c == 35) _ _ unmarked
          ∙ ap (λ prefix. drop (length prefix) (c ∷ digits ++ rest)) taken
          ∙ drop-append_seam (c ∷ digits) rest;
      value = cond-false (c == 35) _ _ unmarked ∙ ap decimal_value taken;
      begins = or_first _ _ digit;
    }
number_is_first _ _ _ (hexadecimal digits rest are none) =
    let same = hexadecimal_split digits rest are none in
    record {
      writes = ap (λ p. 35 ∷ p.0) same;
      leaves = ap (λ p. p.1) same;
      value = ap (λ p. hexadecimal_value p.0) same;
      begins = begins_longer digits rest
          (and_parts (begins_hexadecimal digits) (goes_on_through digits) are).0;
    }

-- a number has a character
pub numeral_length : (written rest : List ℕ) (n : ℕ) → IsNumeral written rest n
    → 0 < length written
numeral_length _ _ _ (decimal [] rest are none) = absurd (are.1 refl)
numeral_length _ _ _ (decimal (c ∷ digits) rest are none) = omega arith
numeral_length _ _ _ (hexadecimal digits rest are none) = omega arith
