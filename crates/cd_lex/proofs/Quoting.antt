-- What is read between two quotes is what stands there.
use Rattle.std.proofs.Common.{◌≡◌, ◌≢◌, ℕ, ◌≤◌, ◌<◌, Bool, true, false, true≢false, List, [], ◌∷◌, ◌++◌, length, refl, sym, ap, subst, ◌∙◌, inl, inr, arith, append_assoc, append-nil}
use Rattle.std.specs.Prelude.{take_while, not, ◌==◌}
use Rattle.std.specs.List.{list_all}
use Rattle.std.specs.Char.{IsScalar, is_ascii_digit}
use Rattle.std.proofs.lemmas.Bool.{and_parts, and_from, eq-eqb, eqb-true, ne_eqb}
use Rattle.std.proofs.Math.Utf8.{scalar, scalar_cases}
use Rattle.cd_syntax.specs.Quotes.{Quotes, nothing, itself, letter, code, IsCode, IsEscapeLetter, BeginsNoEscape, no_letter, no_code, no_semicolon, EndsHalf, alone}
use Rattle.cd_syntax.specs.Digits.{AreDigits, decimal_value, BeginsWithNoDigit}
use Rattle.cd_lex.specs.Inner.Prefixes.{after, first_digits, after_digits}
use Rattle.cd_lex.specs.Inner.Number.{number_after}
use Rattle.cd_lex.specs.Inner.Quoted.{Means, IsClosed, IsBroken, IsOpen}
use Rattle.cd_lex.specs.Inner.Quoting.{IsEscapeOf}
use Rattle.cd_lex.specs.Inner.Runs.{belongs, EndsRun}
use Rattle.cd_lex.specs.declared.run.Run.TheVariants.{Quoted}
use Rattle.cd_lex.proofs.Wording.{digits_stand, taken_and_rest, taken_pass}
use Rattle.cd_lex.proofs.Prefixing.{number_after_le}

-- a number past the greatest character is none, and stays none with more digits
pub no_scalar : (n : ℕ) (digits : List ℕ) (value : ℕ) → 1114111 < n → number_after n digits ≡ value → IsScalar value → ⊥
no_scalar n digits value past is scalar =
    let more = number_after_le n digits in
    elim (scalar_cases value scalar) [
      | inl low ↦ omega arith
      | inr high ↦ omega arith
    ]

-- two pieces, one after the other, stand for the characters of both
further : (quote : ℕ) (a b x y : List ℕ) → Quotes quote a x → Quotes quote b y → Quotes quote (a ++ b) (x ++ y)
further quote _ b _ y nothing more = more
further quote _ b _ y (itself c a x no_quote no_backslash quotes) more = itself c (a ++ b) (x ++ y) no_quote no_backslash (further quote a b x y quotes more)
further quote _ b _ y (letter l c a x is quotes) more = letter l c (a ++ b) (x ++ y) is (further quote a b x y quotes more)
further quote _ b _ y (code digits a x are quotes) more =
    subst (λ w. Quotes quote (92 ∷ w) (decimal_value digits ∷ x ++ y)) (sym (append_assoc digits (59 ∷ a) b)) (code digits (a ++ b) (x ++ y) are (further quote a b x y quotes more))

-- a run stands for itself
run_quotes : (quote : ℕ) (cs : List ℕ) → list_all (belongs (Quoted quote)) cs ≡ true
    → Quotes quote cs cs
run_quotes quote [] all = nothing
run_quotes quote (c ∷ cs) all =
    let parts = and_parts (belongs (Quoted quote) c) (list_all (belongs (Quoted quote)) cs) all in
    let differs = and_parts (not (c == quote)) (not (c == 92)) parts.0 in
    itself c cs cs (unlike quote differs.0) (unlike 92 differs.1) (run_quotes quote cs parts.1)
  where
    unlike : (d : ℕ) → not (c == d) ≡ true → c ≢ d
    unlike d differs same = true≢false (sym differs ∙ ap not (eq-eqb c d same))

-- where it ends, the quote stands or a `\`
pub backslash_stops : (quote c : ℕ) (text rest : List ℕ) → EndsRun (Quoted quote) text
    → text ≡ c ∷ rest → (c ≡ quote → ⊥) → c ≡ 92
backslash_stops quote c text rest ends at differs = by (c == 92) refl
  where
    stops : belongs (Quoted quote) c ≡ false
    stops = subst (EndsRun (Quoted quote)) at ends

    by : (b : Bool) → (c == 92) ≡ b → c ≡ 92
    by true is = eqb-true c 92 is
    by false is = absurd (true≢false (sym (and_from (not (c == quote)) (not (c == 92))
        (ap not (ne_eqb c quote differs)) (ap not is)) ∙ stops))

module _ (quote : ℕ) (text : List ℕ) where
  abbrev plain : ℕ → Bool
  plain = belongs (Quoted quote)

  -- a run is read
  pub run_read : (read new : List ℕ) → read ≡ take_while plain text → new ≡ after plain text
      → Means quote text read new
  run_read read new read_is new_is = record {
    written = take_while plain text;
    is = taken_and_rest plain text ∙ ap (λ rest. take_while plain text ++ rest) (sym new_is);
    quotes = subst (Quotes quote (take_while plain text)) (sym read_is)
        (run_quotes quote (take_while plain text) (taken_pass plain text));
  }

  -- a piece more
  piece_read : (read left piece characters new read_then : List ℕ) → Means quote text read left
      → left ≡ piece ++ new → Quotes quote piece characters
      → read_then ≡ read ++ characters → Means quote text read_then new
  piece_read read left piece characters new read_then so at piece_is pushed = record {
    written = so.written ++ piece;
    is = so.is ∙ ap (λ rest. so.written ++ rest) at ∙ sym (append_assoc so.written piece new);
    quotes = subst (Quotes quote (so.written ++ piece)) (sym pushed)
        (further quote so.written piece read characters so.quotes piece_is);
  }

  -- an escape, and a run after it
  pub escape_read : (read left ahead mid new run read_then : List ℕ) (first c : ℕ)
      → Means quote text read left → left ≡ first ∷ ahead → first ≡ 92
      → IsEscapeOf ahead c mid → run ≡ take_while plain mid → new ≡ after plain mid
      → read_then ≡ read ++ (c ∷ run) → Means quote text read_then new
  escape_read read left ahead mid new run read_then first c so at backslash escape run_is new_is
      pushed =
      piece_read (read ++ c ∷ []) mid (take_while plain mid) (take_while plain mid) new read_then
      (piece_read read left (92 ∷ escape.written) (c ∷ []) mid (read ++ c ∷ []) so
      (at ∙ ap (λ first. first ∷ ahead) backslash ∙ ap (λ rest. 92 ∷ rest) escape.is)
      (escape.quotes quote) refl)
      (taken_and_rest plain mid ∙ ap (λ rest. take_while plain mid ++ rest) (sym new_is))
      (run_quotes quote (take_while plain mid) (taken_pass plain mid))
      (pushed ∙ ap (λ run. read ++ (c ∷ run)) run_is ∙ sym
      (append_assoc read (c ∷ []) (take_while plain mid)))

  -- the closing quote stands next
  pub closed : (read left new : List ℕ) (c : ℕ) → Means quote text read left → left ≡ c ∷ new → c ≡ quote → IsClosed quote text read new
  closed read left new c so at is = subst (Means quote text read) (at ∙ ap (λ c. c ∷ new) is) so

  pub broken : (read left ahead : List ℕ) (c : ℕ) → Means quote text read left → left ≡ c ∷ ahead → c ≡ 92 → BeginsNoEscape (92 ∷ ahead) → IsBroken quote text left
  broken read left ahead c so at is breaks = record {
    characters = read;
    means = so;
    breaks = subst BeginsNoEscape (sym (at ∙ ap (λ c. c ∷ ahead) is)) breaks;
  }

  pub half : (read left ahead : List ℕ) (c : ℕ) → Means quote text read left → left ≡ c ∷ ahead → c ≡ 92 → EndsHalf (92 ∷ ahead) → IsOpen quote text
  half read left ahead c so at is ends = record {
    characters = read;
    rest = left;
    means = so;
    ends = subst EndsHalf (sym (at ∙ ap (λ c. c ∷ ahead) is)) ends;
  }

  pub ended : (read left : List ℕ) → Means quote text read left → left ≡ [] → IsOpen quote text
  ended read left so at = record { characters = read; rest = left; means = so; ends = subst EndsHalf (sym at) EndsHalf.nothing }

-- after a `\`: a letter, the end, or no escape
pub means_letter : (text new : List ℕ) (first c : ℕ) → text ≡ first ∷ new → IsEscapeLetter first c → IsEscapeOf text c new
means_letter text new first c at meant = record { written = first ∷ []; is = at; quotes = λ quote. letter first c [] [] meant nothing }

pub breaks_no_letter : (text new : List ℕ) (first : ℕ) → text ≡ first ∷ new → is_ascii_digit first ≡ false → ((meant : ℕ) → IsEscapeLetter first meant → ⊥) → BeginsNoEscape (92 ∷ text)
breaks_no_letter text new first at no_digit none = subst (λ text. BeginsNoEscape (92 ∷ text)) (sym at) (no_letter first new no_digit none)

pub ends_alone : (text : List ℕ) → text ≡ [] → EndsHalf (92 ∷ text)
ends_alone text none = subst (λ text. EndsHalf (92 ∷ text)) (sym none) alone

module _ (c : ℕ) (left : List ℕ) (digit : is_ascii_digit c ≡ true) where
  abbrev digits : List ℕ
  digits = first_digits (c ∷ left)

  are : AreDigits digits × BeginsWithNoDigit (after_digits (c ∷ left))
  are = digits_stand (c ∷ left) c left refl digit

  -- the digits make a character
  abbrev Makes : ℕ → Type 0
  Makes meant = ((length digits ≤ 7) × IsScalar (decimal_value digits)) × (meant ≡ decimal_value digits)

  code_is : (meant : ℕ) → Makes meant → IsCode digits
  code_is meant makes = record { digits = are.0; few = makes.0.0; scalar = makes.0.1 }

  pub breaks_no_code : ((length digits ≤ 7) × IsScalar (decimal_value digits) → ⊥) → BeginsNoEscape (92 ∷ c ∷ left)
  breaks_no_code none = subst (λ text. BeginsNoEscape (92 ∷ text)) (sym (taken_and_rest is_ascii_digit (c ∷ left)))
      (no_code digits (after_digits (c ∷ left)) are.0 are.1 (λ code. none (code.few, code.scalar)))

  -- a `;` follows, another character, or nothing
  pub means_code : (meant next : ℕ) (rest new : List ℕ) → Makes meant → rest ≡ after_digits (c ∷ left) → rest ≡ next ∷ new → next ≡ 59 → IsEscapeOf (c ∷ left) meant new
  means_code meant next rest new makes after at semicolon = record {
    written = digits ++ 59 ∷ [];
    is = taken_and_rest is_ascii_digit (c ∷ left)
        ∙ ap (λ rest. digits ++ rest) (sym after ∙ at ∙ ap (λ next. next ∷ new) semicolon)
        ∙ sym (append_assoc digits (59 ∷ []) new);
    quotes = λ quote. subst (λ meant. Quotes quote (92 ∷ digits ++ 59 ∷ []) (meant ∷ [])) (sym makes.1) (code digits [] [] (code_is meant makes) nothing);
  }

  pub breaks_no_semicolon : (meant next : ℕ) (rest new : List ℕ) → Makes meant → rest ≡ after_digits (c ∷ left) → rest ≡ next ∷ new → (next ≡ 59 → ⊥) → BeginsNoEscape (92 ∷ c ∷ left)
  breaks_no_semicolon meant next rest new makes after at differs =
      let left_is : after_digits (c ∷ left) ≡ next ∷ new = sym after ∙ at in
      subst (λ text. BeginsNoEscape (92 ∷ text)) (sym (taken_and_rest is_ascii_digit (c ∷ left) ∙ ap (λ rest. digits ++ rest) left_is))
      (no_semicolon digits next new are.0 (subst BeginsWithNoDigit left_is are.1) differs)

  pub ends_code : (meant : ℕ) (rest : List ℕ) → Makes meant → rest ≡ after_digits (c ∷ left) → rest ≡ [] → EndsHalf (92 ∷ c ∷ left)
  ends_code meant rest makes after none =
      subst (λ text. EndsHalf (92 ∷ text)) (sym (taken_and_rest is_ascii_digit (c ∷ left) ∙ ap (λ rest. digits ++ rest) (sym after ∙ none) ∙ append-nil digits))
      (EndsHalf.code digits (code_is meant makes))
