-- What stands after an opening quote is closed, breaks at a `\` or ends too early.
use Rattle.std.proofs.Common.{◌≡◌, ◌≢◌, ℕ, zero, suc, ◌+◌, ◌≤◌, ◌<◌, true, false, true≢false, List, [], ◌∷◌, ◌++◌, refl, sym, ap, subst, ◌∙◌, inl, inr, ◌⊎◌, arith, length, drop}
use Rattle.std.specs.Prelude.{take_while}
use Rattle.std.specs.Char.{is_ascii_digit}
use Rattle.std.proofs.Math.Utf8.{scalar}
use Rattle.std.proofs.lemmas.Bool.{cases_Bool, cases_eq, cases_lt}
use Rattle.std.proofs.lemmas.List.{append_assoc, append-nil, length-append}
use Rattle.cd_syntax.specs.Digits.{AreDigits, decimal_value, BeginsWithNoDigit}
use Rattle.cd_syntax.specs.Quotes.{Quotes, IsEscapeLetter, line_feed, carriage_return, tab, backslash, apostrophe, IsCode, BeginsNoEscape, EndsHalf}
use Rattle.cd_syntax.specs.Quotes as quotes
use Rattle.cd_lex.specs.Inner.Quoted.{Means, IsClosed, IsBroken, IsOpen}
use Rattle.cd_lex.proofs.Wording.{digits_stand, taken_and_rest}

-- a letter after `\` means a character, or none
letter_or : (c : ℕ) → ((meant : ℕ) × IsEscapeLetter c meant) ⊎ ((meant : ℕ) → IsEscapeLetter c meant → ⊥)
letter_or c = by (cases_eq c 110) (cases_eq c 114) (cases_eq c 116) (cases_eq c 92) (cases_eq c 39) (cases_eq c 34)
  where
    Or : ℕ → Type 0
    Or c = ((meant : ℕ) × IsEscapeLetter c meant) ⊎ ((meant : ℕ) → IsEscapeLetter c meant → ⊥)

    none : (c meant : ℕ) → c ≢ 110 → c ≢ 114 → c ≢ 116 → c ≢ 92 → c ≢ 39 → c ≢ 34 → IsEscapeLetter c meant → ⊥
    none _ _ n r t b a q line_feed = n refl
    none _ _ n r t b a q carriage_return = r refl
    none _ _ n r t b a q tab = t refl
    none _ _ n r t b a q backslash = b refl
    none _ _ n r t b a q apostrophe = a refl
    none _ _ n r t b a q quotes.quote = q refl

    by : ((c ≡ 110) ⊎ (c ≡ 110 → ⊥)) → ((c ≡ 114) ⊎ (c ≡ 114 → ⊥)) → ((c ≡ 116) ⊎ (c ≡ 116 → ⊥)) → ((c ≡ 92) ⊎ (c ≡ 92 → ⊥)) → ((c ≡ 39) ⊎ (c ≡ 39 → ⊥)) → ((c ≡ 34) ⊎ (c ≡ 34 → ⊥)) → Or c
    by (inl is) r t b a q = subst Or (sym is) (inl (10, line_feed))
    by (inr n) (inl is) t b a q = subst Or (sym is) (inl (13, carriage_return))
    by (inr n) (inr r) (inl is) b a q = subst Or (sym is) (inl (9, tab))
    by (inr n) (inr r) (inr t) (inl is) a q = subst Or (sym is) (inl (92, backslash))
    by (inr n) (inr r) (inr t) (inr b) (inl is) q = subst Or (sym is) (inl (39, apostrophe))
    by (inr n) (inr r) (inr t) (inr b) (inr a) (inl is) = subst Or (sym is) (inl (34, quotes.quote))
    by (inr n) (inr r) (inr t) (inr b) (inr a) (inr q) = inr (λ meant is. none c meant n r t b a q is)

-- digits are a code or none
code_or : (digits : List ℕ) → AreDigits digits → IsCode digits ⊎ (IsCode digits → ⊥)
code_or digits are = by (cases_lt 7 (length digits)) (cases_Bool (scalar (decimal_value digits)))
  where
    by : ((7 < length digits) ⊎ (length digits ≤ 7)) → ((scalar (decimal_value digits) ≡ true) ⊎ (scalar (decimal_value digits) ≡ false)) → IsCode digits ⊎ (IsCode digits → ⊥)
    by (inl long) is = inr (λ code. let few = code.few in omega arith)
    by (inr few) (inl is) = inl (record { digits = are; few = few; scalar = is })
    by (inr few) (inr fails) = inr (λ code. true≢false (sym code.scalar ∙ fails))

-- what stands after a `\`
data AfterBackslash (text : List ℕ) : Type 0 where
  means : (piece : List ℕ) (c : ℕ) (rest : List ℕ) → 92 ∷ text ≡ piece ++ rest → 0 < length piece
      → ((quote : ℕ) (written characters : List ℕ) → Quotes quote written characters → Quotes quote (piece ++ written) (c ∷ characters)) → AfterBackslash text
  begins_none : BeginsNoEscape (92 ∷ text) → AfterBackslash text
  ends_early : EndsHalf (92 ∷ text) → AfterBackslash text

-- digits, and what follows them
after_digits : (digits rest : List ℕ) → AreDigits digits → BeginsWithNoDigit rest → AfterBackslash (digits ++ rest)
after_digits digits rest are ends = by rest ends (code_or digits are)
  where
    at_semicolon : (rest : List ℕ) → IsCode digits → AfterBackslash (digits ++ 59 ∷ rest)
    at_semicolon rest code = means (92 ∷ digits ++ 59 ∷ []) (decimal_value digits) rest (ap (λ t. 92 ∷ t) (sym (append_assoc digits (59 ∷ []) rest))) (omega arith)
        (λ quote written characters is.
        subst (λ w. Quotes quote (92 ∷ w) (decimal_value digits ∷ characters)) (sym (append_assoc digits (59 ∷ []) written))
        (quotes.code digits written characters code is))

    by : (rest : List ℕ) → BeginsWithNoDigit rest → IsCode digits ⊎ (IsCode digits → ⊥) → AfterBackslash (digits ++ rest)
    by rest ends (inr none) = begins_none (quotes.no_code digits rest are ends none)
    by [] ends (inl code) = subst AfterBackslash (sym (append-nil digits)) (ends_early (quotes.code digits code))
    by (c ∷ rest) ends (inl code) = elim (cases_eq c 59) [
      | inl is ↦ subst (λ c. AfterBackslash (digits ++ c ∷ rest)) (sym is) (at_semicolon rest code)
      | inr differs ↦ begins_none (quotes.no_semicolon digits c rest are ends differs)
    ]

after_backslash : (text : List ℕ) → AfterBackslash text
after_backslash [] = ends_early quotes.alone
after_backslash (c ∷ rest) = elim (cases_Bool (is_ascii_digit c)) [
  | inl digit ↦
      let stood = digits_stand (c ∷ rest) c rest refl digit in
      let digits = take_while is_ascii_digit (c ∷ rest) in
      subst AfterBackslash (sym (taken_and_rest is_ascii_digit (c ∷ rest))) (after_digits digits (drop (length digits) (c ∷ rest)) stood.0 stood.1)
  | inr no_digit ↦ elim (letter_or c) [
    | inl meant ↦ means (92 ∷ c ∷ []) meant.0 rest refl (omega arith) (λ quote written characters is. quotes.letter c meant.0 written characters meant.1 is)
    | inr none ↦ begins_none (quotes.no_letter c rest no_digit none)
  ]
]

-- what stands after an opening quote
pub data AfterQuote (quote : ℕ) (text : List ℕ) : Type 0 where
  closed : (characters rest : List ℕ) → IsClosed quote text characters rest → AfterQuote quote text
  broken : (rest : List ℕ) → IsBroken quote text rest → AfterQuote quote text
  unended : IsOpen quote text → AfterQuote quote text

-- one piece more before it
further_means : (quote : ℕ) (piece : List ℕ) (c : ℕ) (text characters rest : List ℕ)
    → ((written characters : List ℕ) → Quotes quote written characters → Quotes quote (piece ++ written) (c ∷ characters))
    → Means quote text characters rest → Means quote (piece ++ text) (c ∷ characters) rest
further_means quote piece c text characters rest further is = record {
  written = piece ++ is.written;
  is = ap (λ t. piece ++ t) is.is ∙ sym (append_assoc piece is.written rest);
  quotes = further is.written characters is.quotes;
}

one_more : (quote : ℕ) (piece : List ℕ) (c : ℕ) (rest : List ℕ)
    → ((written characters : List ℕ) → Quotes quote written characters → Quotes quote (piece ++ written) (c ∷ characters))
    → AfterQuote quote rest → AfterQuote quote (piece ++ rest)
one_more quote piece c rest further (closed characters new is) = closed (c ∷ characters) new (further_means quote piece c rest characters (quote ∷ new) further is)
one_more quote piece c rest further (broken new is) = broken new (record {
  characters = c ∷ is.characters;
  means = further_means quote piece c rest is.characters new further is.means;
  breaks = is.breaks;
})
one_more quote piece c rest further (unended is) = unended (record {
  characters = c ∷ is.characters;
  rest = is.rest;
  means = further_means quote piece c rest is.characters is.rest further is.means;
  ends = is.ends;
})

-- nothing is read
nothing_read : (quote : ℕ) (text : List ℕ) → Means quote text [] text
nothing_read quote text = record { written = []; is = refl; quotes = quotes.nothing }

module _ (quote : ℕ) where
  -- the text ends
  ended : AfterQuote quote []
  ended = unended (record { characters = []; rest = []; means = nothing_read quote []; ends = quotes.nothing })

  -- the closing quote
  closes : (rest : List ℕ) → AfterQuote quote (quote ∷ rest)
  closes rest = closed [] rest (nothing_read quote (quote ∷ rest))

  -- a `\`, where what is left after its escape is known
  escapes : (n : ℕ) (text : List ℕ) → length text ≤ n → ((rest : List ℕ) → length rest ≤ n → AfterQuote quote rest) → AfterBackslash text → AfterQuote quote (92 ∷ text)
  escapes n text fits on (means piece c rest is some further) =
      let whole : length (92 ∷ text) ≡ length piece + length rest = ap length is ∙ length-append piece rest in
      subst (AfterQuote quote) (sym is) (one_more quote piece c rest (further quote) (on rest (omega arith)))
  escapes n text fits on (begins_none breaks) = broken (92 ∷ text) (record { characters = []; means = nothing_read quote (92 ∷ text); breaks = breaks })
  escapes n text fits on (ends_early ends) = unended (record { characters = []; rest = 92 ∷ text; means = nothing_read quote (92 ∷ text); ends = ends })

  -- a character, where what is left after it is known
  first : (n c : ℕ) (text : List ℕ) → length text ≤ n → ((rest : List ℕ) → length rest ≤ n → AfterQuote quote rest) → AfterQuote quote (c ∷ text)
  first n c text fits on = elim (cases_eq c quote) [
    | inl is ↦ subst (λ c. AfterQuote quote (c ∷ text)) (sym is) (closes text)
    | inr no_quote ↦ elim (cases_eq c 92) [
      | inl is ↦ subst (λ c. AfterQuote quote (c ∷ text)) (sym is) (escapes n text fits on (after_backslash text))
      | inr other ↦ one_more quote (c ∷ []) c text (λ written characters is. quotes.itself c written characters no_quote other is) (on text fits)
    ]
  ]

  within : (n : ℕ) (text : List ℕ) → length text ≤ n → AfterQuote quote text
  within n [] fits = ended
  within zero (c ∷ text) fits = absurd (omega arith)
  within (suc n) (c ∷ text) fits = first n c text (omega arith) (within n)

  pub after_quote : (text : List ℕ) → AfterQuote quote text
  after_quote text = within (length text) text (omega arith)
