-- Between quotes a text is read in one way: up to the quote that closes it, to a `\` that begins no escape, or to its end.
use Rattle.std.proofs.Common.{◌≡◌, ◌≢◌, ℕ, Bool, true, false, List, [], ◌∷◌, ◌++◌, refl, sym, ap, subst, ◌∙◌, inl, inr, ◌⊎◌, length, drop, append-nil}
use Rattle.std.specs.Prelude.{◌==◌, if◌then◌else◌, take_while}
use Rattle.std.specs.Char.{is_ascii_digit}
use Rattle.std.specs.List.{list_all}
use Rattle.std.proofs.Math.Seq.{drop-append_seam}
use Rattle.std.proofs.lemmas.Bool.{and_parts, cond-true, cond-false, ne_eqb, eq-eqb}
use Rattle.std.proofs.lemmas.List.{append_assoc}
use Rattle.cd_syntax.specs.Digits.{AreDigits, decimal_value, BeginsWithNoDigit}
use Rattle.cd_syntax.specs.Quotes.{Quotes, nothing, itself, letter, code, IsEscapeLetter, line_feed, carriage_return, tab, backslash, apostrophe, quote, IsCode, BeginsNoEscape, no_letter, no_code, no_semicolon, EndsHalf, alone}
use Rattle.cd_lex.proofs.Wording.{digits_taken}
use Rattle.cd_lex.proofs.OneWay.{Outcome, Stop, More, Reads, stop, more, once, Decided, decided_once}

-- what is read
pub data Read : Type 0 where
  Closed : (written characters rest : List ℕ) → Read
  Broken : (written : List ℕ) → Read
  Open : Read

abbrev pub Step : Type 0
Step = Outcome (List ℕ) Read (List ℕ × ℕ)

-- after a piece that stands for some characters
abbrev pub extend : List ℕ → List ℕ → Read → Read
extend piece means (Closed written characters rest) = Closed (piece ++ written) (means ++ characters) rest
extend piece means (Broken written) = Broken (piece ++ written)
extend piece means Open = Open

abbrev pub push : List ℕ × ℕ → Read → Read
push piece = extend piece.0 (piece.1 ∷ [])

-- after a `\` and digits, where a `;` stands or another character
abbrev pub AtSemicolon : (digits rest : List ℕ) → Bool → Step → Type 0
AtSemicolon digits rest true is = Decided Step (IsCode digits) (More rest (92 ∷ digits ++ 59 ∷ [], decimal_value digits)) (Stop (Broken [])) is
AtSemicolon digits rest false is = is ≡ Stop (Broken [])

abbrev pub AfterDigits : (digits rest : List ℕ) → Step → Type 0
AfterDigits digits [] is = Decided Step (IsCode digits) (Stop Open) (Stop (Broken [])) is
AfterDigits digits (c ∷ cs) is = AtSemicolon digits cs (c == 59) is

-- after a `\`, where a digit stands or another character
abbrev pub Escape : (c : ℕ) (rest : List ℕ) → Bool → Step → Type 0
Escape c rest true is = AfterDigits (take_while is_ascii_digit (c ∷ rest)) (drop (length (take_while is_ascii_digit (c ∷ rest))) (c ∷ rest)) is
Escape c rest false is = ((meant : ℕ) × IsEscapeLetter c meant × (is ≡ More rest (92 ∷ c ∷ [], meant))) ⊎ (((meant : ℕ) → IsEscapeLetter c meant → ⊥) × (is ≡ Stop (Broken [])))

abbrev pub AfterBackslash : List ℕ → Step → Type 0
AfterBackslash [] is = is ≡ Stop Open
AfterBackslash (c ∷ cs) is = Escape c cs (is_ascii_digit c) is

-- what a character is
pub data Mark : Type 0 where
  Ends : Mark
  Escapes : Mark
  Stands : Mark

abbrev pub mark_of : (quote c : ℕ) → Mark
mark_of q c = if c == q then Ends else (if c == 92 then Escapes else Stands)

abbrev pub Marked : (c : ℕ) (rest : List ℕ) → Mark → Step → Type 0
Marked c rest Ends is = is ≡ Stop (Closed [] [] rest)
Marked c rest Escapes is = AfterBackslash rest is
Marked c rest Stands is = is ≡ More rest (c ∷ [], c)

abbrev pub QuoteStep : ℕ → List ℕ → Step → Type 0
QuoteStep q [] is = is ≡ Stop Open
QuoteStep q (c ∷ cs) is = Marked c cs (mark_of q c) is

-- after an opening quote, this is read
abbrev pub ReadsQuote : ℕ → List ℕ → Read → Type 0
ReadsQuote q = Reads (List ℕ) Read (List ℕ × ℕ) (QuoteStep q) push

-- a letter means one character
abbrev pub meaning : ℕ → ℕ
meaning c = if c == 110 then 10 else (if c == 114 then 13 else (if c == 116 then 9 else c))

means : (c meant : ℕ) → IsEscapeLetter c meant → meant ≡ meaning c
means _ _ line_feed = refl
means _ _ carriage_return = refl
means _ _ tab = refl
means _ _ backslash = refl
means _ _ apostrophe = refl
means _ _ quote = refl

no_digit_means : (c meant : ℕ) → IsEscapeLetter c meant → is_ascii_digit c ≡ false
no_digit_means _ _ line_feed = refl
no_digit_means _ _ carriage_return = refl
no_digit_means _ _ tab = refl
no_digit_means _ _ backslash = refl
no_digit_means _ _ apostrophe = refl
no_digit_means _ _ quote = refl

-- each step has one outcome
at_semicolon_once : (digits rest : List ℕ) (is : Bool) (a b : Step) → AtSemicolon digits rest is a → AtSemicolon digits rest is b → a ≡ b
at_semicolon_once digits rest true a b one two = decided_once Step (IsCode digits) _ _ a b one two
at_semicolon_once digits rest false a b one two = one ∙ sym two

after_digits_once : (digits rest : List ℕ) (a b : Step) → AfterDigits digits rest a → AfterDigits digits rest b → a ≡ b
after_digits_once digits [] a b one two = decided_once Step (IsCode digits) _ _ a b one two
after_digits_once digits (c ∷ cs) a b one two = at_semicolon_once digits cs (c == 59) a b one two

letter_once : (c : ℕ) (rest : List ℕ) (a b : Step) → Escape c rest false a → Escape c rest false b → a ≡ b
letter_once c rest a b (inl one) (inl two) =
    one.2 ∙ ap (λ meant. More rest (92 ∷ c ∷ [], meant)) (means c one.0 one.1 ∙ sym (means c two.0 two.1)) ∙ sym two.2
letter_once c rest a b (inl one) (inr two) = absurd (two.0 one.0 one.1)
letter_once c rest a b (inr one) (inl two) = absurd (one.0 two.0 two.1)
letter_once c rest a b (inr one) (inr two) = one.1 ∙ sym two.1

escape_once : (c : ℕ) (rest : List ℕ) (digit : Bool) (a b : Step) → Escape c rest digit a → Escape c rest digit b → a ≡ b
escape_once c rest true a b one two =
    let digits = take_while is_ascii_digit (c ∷ rest) in
    after_digits_once digits (drop (length digits) (c ∷ rest)) a b one two
escape_once c rest false a b one two = letter_once c rest a b one two

after_backslash_once : (rest : List ℕ) (a b : Step) → AfterBackslash rest a → AfterBackslash rest b → a ≡ b
after_backslash_once [] a b one two = one ∙ sym two
after_backslash_once (c ∷ cs) a b one two = escape_once c cs (is_ascii_digit c) a b one two

marked_once : (c : ℕ) (rest : List ℕ) (mark : Mark) (a b : Step) → Marked c rest mark a → Marked c rest mark b → a ≡ b
marked_once c rest Ends a b one two = one ∙ sym two
marked_once c rest Escapes a b one two = after_backslash_once rest a b one two
marked_once c rest Stands a b one two = one ∙ sym two

step_once : (q : ℕ) (text : List ℕ) (a b : Step) → QuoteStep q text a → QuoteStep q text b → a ≡ b
step_once q [] a b one two = one ∙ sym two
step_once q (c ∷ cs) a b one two = marked_once c cs (mark_of q c) a b one two

-- so one thing is read
pub quote_once : (q : ℕ) (text : List ℕ) (a b : Read) → ReadsQuote q text a → ReadsQuote q text b → a ≡ b
quote_once q = once (List ℕ) Read (List ℕ × ℕ) (QuoteStep q) push (step_once q)

-- two pieces, one after the other
extend_none : (read : Read) → extend [] [] read ≡ read
extend_none (Closed written characters rest) = refl
extend_none (Broken written) = refl
extend_none Open = refl

extend_twice : (a b x y : List ℕ) (read : Read) → extend a x (extend b y read) ≡ extend (a ++ b) (x ++ y) read
extend_twice a b x y (Closed written characters rest) =
    ap (λ w. Closed w (x ++ (y ++ characters)) rest) (sym (append_assoc a b written)) ∙ ap (λ cs. Closed ((a ++ b) ++ written) cs rest) (sym (append_assoc x y characters))
extend_twice a b x y (Broken written) = ap Broken (sym (append_assoc a b written))
extend_twice a b x y Open = refl

-- digits after a `\`
backslash_digits : (digits rest : List ℕ) (is : Step) → AreDigits digits → BeginsWithNoDigit rest → AfterDigits digits rest is → AfterBackslash (digits ++ rest) is
backslash_digits [] rest is are ends after = absurd (are.1 refl)
backslash_digits (c ∷ cs) rest is are ends after =
    let digit = (and_parts (is_ascii_digit c) (list_all is_ascii_digit cs) are.0).0 in
    let taken : take_while is_ascii_digit (c ∷ cs ++ rest) ≡ c ∷ cs = digits_taken (c ∷ cs) rest are ends in
    subst (λ digit. Escape c (cs ++ rest) digit is) (sym digit)
    (subst (λ t. AfterDigits t (drop (length t) (c ∷ cs ++ rest)) is) (sym taken)
    (subst (λ rest. AfterDigits (c ∷ cs) rest is) (sym (drop-append_seam (c ∷ cs) rest)) after))

module _ (q : ℕ) (no_backslash : 92 ≢ q) where
  -- a `\`
  escapes : (rest : List ℕ) (is : Step) → AfterBackslash rest is → QuoteStep q (92 ∷ rest) is
  escapes rest is after = subst (λ mark. Marked 92 rest mark is) (sym (cond-false (92 == q) _ _ (ne_eqb 92 q no_backslash))) after

  -- one piece more
  one_more : (piece : List ℕ) (c : ℕ) (written characters rest : List ℕ) (read : Read) → QuoteStep q (piece ++ (written ++ rest)) (More (written ++ rest) (piece, c))
      → ReadsQuote q (written ++ rest) (extend written characters read) → ReadsQuote q (piece ++ (written ++ rest)) (extend (piece ++ written) (c ∷ characters) read)
  one_more piece c written characters rest read goes on =
      subst (ReadsQuote q (piece ++ (written ++ rest))) (extend_twice piece written (c ∷ []) characters read)
      (more (piece ++ (written ++ rest)) (written ++ rest) (piece, c) (extend written characters read) goes on)

  -- what is quoted, and then the rest
  pub quotes_read : (written characters rest : List ℕ) (read : Read) → Quotes q written characters → ReadsQuote q rest read → ReadsQuote q (written ++ rest) (extend written characters read)
  quotes_read _ _ rest read nothing on = subst (ReadsQuote q rest) (sym (extend_none read)) on
  quotes_read _ _ rest read (itself c written characters no_quote other quotes) on =
      one_more (c ∷ []) c written characters rest read
      (subst (λ mark. Marked c (written ++ rest) mark (More (written ++ rest) (c ∷ [], c)))
      (sym (cond-false (c == q) _ _ (ne_eqb c q no_quote) ∙ cond-false (c == 92) _ _ (ne_eqb c 92 other))) refl)
      (quotes_read written characters rest read quotes on)
  quotes_read _ _ rest read (letter l c written characters is quotes) on =
      one_more (92 ∷ l ∷ []) c written characters rest read
      (escapes (l ∷ written ++ rest) (More (written ++ rest) (92 ∷ l ∷ [], c))
      (subst (λ digit. Escape l (written ++ rest) digit (More (written ++ rest) (92 ∷ l ∷ [], c))) (sym (no_digit_means l c is)) (inl (c, is, refl))))
      (quotes_read written characters rest read quotes on)
  quotes_read _ _ rest read (code digits written characters are quotes) on =
      let whole : (digits ++ 59 ∷ []) ++ (written ++ rest) ≡ digits ++ 59 ∷ (written ++ rest) = append_assoc digits (59 ∷ []) (written ++ rest) in
      let piece : (digits ++ 59 ∷ []) ++ written ≡ digits ++ 59 ∷ written = append_assoc digits (59 ∷ []) written in
      let text : (digits ++ 59 ∷ []) ++ (written ++ rest) ≡ (digits ++ 59 ∷ written) ++ rest = whole ∙ sym (append_assoc digits (59 ∷ written) rest) in
      let is : Step = More (written ++ rest) (92 ∷ digits ++ 59 ∷ [], decimal_value digits) in
      subst (λ t. ReadsQuote q (92 ∷ t) (extend (92 ∷ digits ++ 59 ∷ written) (decimal_value digits ∷ characters) read)) text
      (subst (λ w. ReadsQuote q (92 ∷ (digits ++ 59 ∷ []) ++ (written ++ rest)) (extend (92 ∷ w) (decimal_value digits ∷ characters) read)) piece
      (one_more (92 ∷ digits ++ 59 ∷ []) (decimal_value digits) written characters rest read
      (subst (λ t. QuoteStep q (92 ∷ t) is) (sym whole) (escapes (digits ++ 59 ∷ (written ++ rest)) is (backslash_digits digits (59 ∷ (written ++ rest)) is are.digits refl (inl (are, refl)))))
      (quotes_read written characters rest read quotes on)))

  -- the closing quote
  pub closes_read : (rest : List ℕ) → ReadsQuote q (q ∷ rest) (Closed [] [] rest)
  closes_read rest = stop (q ∷ rest) (Closed [] [] rest) (subst (λ mark. Marked q rest mark (Stop (Closed [] [] rest))) (sym (cond-true (q == q) _ _ (eq-eqb q q refl))) refl)

  -- a `\` that begins no escape
  pub breaks_read : (text : List ℕ) → BeginsNoEscape text → ReadsQuote q text (Broken [])
  breaks_read _ (no_letter c rest no_digit none) =
      stop (92 ∷ c ∷ rest) (Broken []) (escapes (c ∷ rest) (Stop (Broken []))
      (subst (λ digit. Escape c rest digit (Stop (Broken []))) (sym no_digit) (inr (none, refl))))
  breaks_read _ (no_code digits rest are ends none) =
      stop (92 ∷ digits ++ rest) (Broken []) (escapes (digits ++ rest) (Stop (Broken [])) (backslash_digits digits rest (Stop (Broken [])) are ends (after rest)))
    where
      at : (rest : List ℕ) (is : Bool) → AtSemicolon digits rest is (Stop (Broken []))
      at rest true = inr (none, refl)
      at rest false = refl

      after : (rest : List ℕ) → AfterDigits digits rest (Stop (Broken []))
      after [] = inr (none, refl)
      after (c ∷ cs) = at cs (c == 59)
  breaks_read _ (no_semicolon digits c rest are no_digit differs) =
      stop (92 ∷ digits ++ c ∷ rest) (Broken []) (escapes (digits ++ c ∷ rest) (Stop (Broken [])) (backslash_digits digits (c ∷ rest) (Stop (Broken [])) are no_digit
      (subst (λ is. AtSemicolon digits rest is (Stop (Broken []))) (sym (ne_eqb c 59 differs)) refl)))

  -- the end
  pub ends_read : (text : List ℕ) → EndsHalf text → ReadsQuote q text Open
  ends_read _ nothing = stop [] Open refl
  ends_read _ alone = stop (92 ∷ []) Open (escapes [] (Stop Open) refl)
  ends_read _ (code digits are) =
      stop (92 ∷ digits) Open (escapes digits (Stop Open) (subst (λ t. AfterBackslash t (Stop Open)) (append-nil digits)
      (backslash_digits digits [] (Stop Open) are.digits tt (inl (are, refl)))))
