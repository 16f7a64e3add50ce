-- Each text lexes or has a first fault.
use Rattle.std.proofs.Common.{◌≡◌, ℕ, ℤ, pos, neg_ℤ, zero, suc, ◌+◌, ◌-◌, ◌≤◌, Bool, true, false, true≢false, List, [], ◌∷◌, Option, Some, None, refl, sym, ap, subst, ◌∙◌, inl, inr, ◌⊎◌, arith, length}
use Rattle.std.specs.Prelude.{◌==◌, ◌||◌, int_le}
use Rattle.std.specs.Char.{is_ascii_digit}
use Rattle.std.proofs.lemmas.Bool.{cases_Bool, cases_eq, and_parts, eqb-true}
use Rattle.std.proofs.lemmas.Int.{ints}
use Rattle.std.proofs.lemmas.List.{length-append}
use Rattle.cd_syntax.specs.declared.sign.Sign.{Sign as ASign}
use Rattle.cd_syntax.specs.declared.tokens.Token.{Token}
use Rattle.cd_syntax.specs.declared.tokens.TokenKind.{TokenKind}
use Rattle.cd_syntax.specs.declared.tokens.TokenKind.TheVariants.{Word, Int, Chars, Text, Atom, Sign}
use Rattle.cd_syntax.specs.declared.fault.TextFault.{TextFault}
use Rattle.cd_syntax.specs.declared.fault.TextFault.TheVariants.{BadChar, OpenText, OpenComment, TooWide}
use Rattle.cd_syntax.specs.Integer.{LEAST, GREATEST, IsInteger}
use Rattle.cd_syntax.specs.Name.{begins_word}
use Rattle.cd_syntax.specs.Numerals.{begins_number, begins_negative}
use Rattle.cd_syntax.specs.Signs.{characters}
use Rattle.cd_syntax.specs.Comments.{begins_pair}
use Rattle.cd_syntax.specs.Tokens.{is_blank, bytes, joins, token_at, Lexes}
use Rattle.cd_syntax.specs.Tokens as tokens
use Rattle.cd_syntax.specs.Faults.{is_other, HasFaultHere, HasFirstFault}
use Rattle.cd_syntax.specs.Faults as faults
use Rattle.cd_lex.specs.Inner.Prefixes.{first_word, after_word}
use Rattle.cd_lex.specs.Inner.Numerals.{number_at, after_number}
use Rattle.cd_lex.specs.Inner.Standing.{IsDroppedTo, IsTokenTo}
use Rattle.cd_lex.specs.Inner.Quoted.{IsBroken}
use Rattle.cd_lex.specs.Inner.Commenting.{within, left_from}
use Rattle.cd_lex.specs.Inner.SignTable.{first_sign}
use Rattle.cd_lex.proofs.Signing.{none_stands, first_stands}
use Rattle.cd_lex.proofs.WordPrefixes.{word_prefix, number_prefix, negative_prefix, number_fault, negative_fault, atom_prefix, lone_backquote, no_word}
use Rattle.cd_lex.proofs.PiecePrefixes.{blank_stands, comment_closes, comment_ends, text_stands, chars_stand, text_open, text_breaks, sign_stands, no_sign, other_by}
use Rattle.cd_lex.proofs.DecidingQuotes.{AfterQuote, closed, broken, unended, after_quote}

-- what stands at the start of a text
data Prefix (joined : Bool) (at : ℕ) (text : List ℕ) : Type 0 where
  falls_away : (rest : List ℕ) → IsDroppedTo text rest → Prefix joined at text
  stands : (kind : TokenKind) (rest : List ℕ) → IsTokenTo joined text kind rest → Prefix joined at text
  is_fault : (fault : TextFault) → HasFaultHere joined at text fault → Prefix joined at text

-- a number fits 128 bits, or not
integer_or : (n : ℤ) → IsInteger n ⊎ (IsInteger n → ⊥)
integer_or n = by (int_le LEAST n) (int_le n GREATEST) refl refl
  where
    by : (a b : Bool) → int_le LEAST n ≡ a → int_le n GREATEST ≡ b → IsInteger n ⊎ (IsInteger n → ⊥)
    by true true from to = inl (omega (arith, ints))
    by true false from past = inr (λ is. omega (arith, ints))
    by false b below to = inr (λ is. omega (arith, ints))

-- a list of numbers is this one, or not
cases_bytes : (xs ys : List ℕ) → (xs ≡ ys) ⊎ (xs ≡ ys → ⊥)
cases_bytes [] [] = inl refl
cases_bytes [] (y ∷ ys) = inr (λ is. cc)
cases_bytes (x ∷ xs) [] = inr (λ is. cc)
cases_bytes (x ∷ xs) (y ∷ ys) = by (cases_eq x y) (cases_bytes xs ys)
  where
    by : ((x ≡ y) ⊎ (x ≡ y → ⊥)) → ((xs ≡ ys) ⊎ (xs ≡ ys → ⊥)) → (x ∷ xs ≡ y ∷ ys) ⊎ (x ∷ xs ≡ y ∷ ys → ⊥)
    by (inl one) (inl rest) = inl cc
    by (inr differs) b = inr (λ is. let same : x ≡ y = cc in differs same)
    by a (inr differs) = inr (λ is. let same : xs ≡ ys = cc in differs same)

-- a text that begins with a pair
pair_is : (a b : ℕ) (text : List ℕ) → begins_pair a b text ≡ true → (inside : List ℕ) × (text ≡ a ∷ b ∷ inside)
pair_is a b [] is = absurd (true≢false (sym is))
pair_is a b (c ∷ []) is = absurd (true≢false (sym is))
pair_is a b (c ∷ d ∷ rest) is =
    let parts = and_parts (c == a) (d == b) is in
    let one : c ≡ a = eqb-true c a parts.0 in
    let two : d ≡ b = eqb-true d b parts.1 in
    (rest, ap (λ c. c ∷ d ∷ rest) one ∙ ap (λ d. a ∷ d ∷ rest) two)

-- a text that begins with a `-` and a number
negative_is : (text : List ℕ) → begins_negative text ≡ true → (rest : List ℕ) × (text ≡ 45 ∷ rest) × (begins_number rest ≡ true)
negative_is [] is = absurd (true≢false (sym is))
negative_is (c ∷ rest) is =
    let parts = and_parts (c == 45) (begins_number rest) is in
    (rest, ap (λ c. c ∷ rest) (eqb-true c 45 parts.0), parts.1)

module _ (joined : Bool) (at : ℕ) where
  comment_decided : (inside : List ℕ) → Prefix joined at (40 ∷ 42 ∷ inside)
  comment_decided inside = by (left_from (within 0) inside) refl
    where
      by : (found : Option (List ℕ)) → left_from (within 0) inside ≡ found → Prefix joined at (40 ∷ 42 ∷ inside)
      by (Some rest) is = falls_away rest (comment_closes (42 ∷ inside) inside rest refl is)
      by None none = is_fault (OpenComment at) (comment_ends joined at (42 ∷ inside) inside refl none)

  -- the place of a `\`, in a text that ends where its bytes end
  breaks_there : (quote : ℕ) (inside rest : List ℕ) → faults.is_quote quote ≡ true → IsBroken quote inside rest → Prefix joined at (quote ∷ inside)
  breaks_there quote inside rest is breaks =
      let end = at + bytes (quote ∷ inside) in
      is_fault (BadChar (end - bytes rest)) (text_breaks joined at quote end (end - bytes rest) inside rest is breaks (omega arith) (omega arith) refl)

  text_decided : (inside : List ℕ) → AfterQuote 34 inside → Prefix joined at (34 ∷ inside)
  text_decided inside (closed characters rest is) = stands (Text characters) rest (text_stands joined inside characters rest is)
  text_decided inside (broken rest is) = breaks_there 34 inside rest refl is
  text_decided inside (unended is) = is_fault (OpenText at) (text_open joined at 34 inside refl is)

  chars_decided : (inside : List ℕ) → AfterQuote 39 inside → Prefix joined at (39 ∷ inside)
  chars_decided inside (closed characters rest is) = stands (Chars characters) rest (chars_stand joined inside characters rest is)
  chars_decided inside (broken rest is) = breaks_there 39 inside rest refl is
  chars_decided inside (unended is) = is_fault (OpenText at) (text_open joined at 39 inside refl is)

  number_decided : (text : List ℕ) → begins_number text ≡ true → Prefix joined at text
  number_decided text begins = by (integer_or value)
    where
      value : ℤ
      value = pos (number_at text)

      by : IsInteger value ⊎ (IsInteger value → ⊥) → Prefix joined at text
      by (inl fits) = stands (Int value) (after_number text) (number_prefix joined text begins fits)
      by (inr wide) = is_fault (TooWide at) (number_fault joined at text begins wide)

  atom_decided : (rest : List ℕ) → Prefix joined at (96 ∷ rest)
  atom_decided [] = is_fault (BadChar at) (lone_backquote joined at [] (no_word [] tt))
  atom_decided (c ∷ rest) = elim (cases_Bool (begins_word c)) [
    | inl begins ↦ by begins (cases_bytes (first_word (c ∷ rest)) (95 ∷ []))
    | inr fails ↦ is_fault (BadChar at) (lone_backquote joined at (c ∷ rest)
        (no_word (c ∷ rest) fails))
  ]
    where
      by : begins_word c ≡ true → (first_word (c ∷ rest) ≡ 95 ∷ []) ⊎ (first_word (c ∷ rest) ≡ 95 ∷ [] → ⊥) → Prefix joined at (96 ∷ c ∷ rest)
      by begins (inl line) = is_fault (BadChar at) (lone_backquote joined at (c ∷ rest) (λ label. label.1 line))
      by begins (inr other) = stands (Atom (first_word (c ∷ rest))) (after_word (c ∷ rest)) (atom_prefix joined c rest begins other)

  sign_decided : (c : ℕ) (rest : List ℕ) → is_other c ≡ true → begins_number (c ∷ rest) ≡ false → (c ≡ 96 → ⊥) → begins_pair 40 42 (c ∷ rest) ≡ false
      → (joined ≡ false → begins_negative (c ∷ rest) ≡ false) → Prefix joined at (c ∷ rest)
  sign_decided c rest other no_number_here no_backquote no_pair no_number = by (first_sign (c ∷ rest)) refl
    where
      by : (found : Option ASign) → first_sign (c ∷ rest) ≡ found → Prefix joined at (c ∷ rest)
      by (Some is) found = let sign = first_stands (c ∷ rest) is found in stands (Sign is) sign.0 (sign_stands joined (c ∷ rest) is sign.0 sign.1 no_pair no_number)
      by None none = is_fault (BadChar at) (no_sign joined at c rest other no_number_here no_backquote (none_stands (c ∷ rest) none))

  -- a character that begins no number is no digit
  no_digit : (a b : Bool) → (a || b) ≡ false → a ≡ false
  no_digit true b none = absurd (true≢false none)
  no_digit false b none = refl

  -- by the first character, where no comment and no negative number begins
  by_first : (c : ℕ) (rest : List ℕ) → begins_pair 40 42 (c ∷ rest) ≡ false → (joined ≡ false → begins_negative (c ∷ rest) ≡ false) → Prefix joined at (c ∷ rest)
  by_first c rest no_pair no_number =
      by (cases_eq c 34) (cases_eq c 39) (cases_eq c 96) (cases_Bool (is_blank c)) (cases_Bool (begins_word c)) (cases_Bool (begins_number (c ∷ rest)))
    where
      by : ((c ≡ 34) ⊎ (c ≡ 34 → ⊥)) → ((c ≡ 39) ⊎ (c ≡ 39 → ⊥)) → ((c ≡ 96) ⊎ (c ≡ 96 → ⊥)) → ((is_blank c ≡ true) ⊎ (is_blank c ≡ false))
          → ((begins_word c ≡ true) ⊎ (begins_word c ≡ false)) → ((begins_number (c ∷ rest) ≡ true) ⊎ (begins_number (c ∷ rest) ≡ false)) → Prefix joined at (c ∷ rest)
      by (inl is) b q k w d = subst (λ c. Prefix joined at (c ∷ rest)) (sym is) (text_decided rest (after_quote 34 rest))
      by (inr a) (inl is) q k w d = subst (λ c. Prefix joined at (c ∷ rest)) (sym is) (chars_decided rest (after_quote 39 rest))
      by (inr a) (inr b) (inl is) k w d = subst (λ c. Prefix joined at (c ∷ rest)) (sym is) (atom_decided rest)
      by (inr a) (inr b) (inr q) (inl is) w d = falls_away rest (blank_stands c rest is)
      by (inr a) (inr b) (inr q) (inr k) (inl is) d = stands (Word (first_word (c ∷ rest))) (after_word (c ∷ rest)) (word_prefix joined c rest is)
      by (inr a) (inr b) (inr q) (inr k) (inr w) (inl is) = number_decided (c ∷ rest) is
      by (inr a) (inr b) (inr q) (inr k) (inr w) (inr d) =
          sign_decided c rest (other_by c k w (no_digit (is_ascii_digit c) _ d) a b) d q no_pair no_number

-- a negative number
negative_decided : (at : ℕ) (text : List ℕ) → begins_number text ≡ true → Prefix false at (45 ∷ text)
negative_decided at text begins = by (integer_or value)
  where
    value : ℤ
    value = neg_ℤ (pos (number_at text))

    by : IsInteger value ⊎ (IsInteger value → ⊥) → Prefix false at (45 ∷ text)
    by (inl fits) = stands (Int value) (after_number text) (negative_prefix text begins fits)
    by (inr wide) = is_fault (TooWide at) (negative_fault at text begins wide)

prefix_decided : (joined : Bool) (at c : ℕ) (rest : List ℕ) → Prefix joined at (c ∷ rest)
prefix_decided joined at c rest = elim (cases_Bool (begins_pair 40 42 (c ∷ rest))) [
  | inl pair ↦
      let is = pair_is 40 42 (c ∷ rest) pair in
      subst (Prefix joined at) (sym is.1) (comment_decided joined at is.0)
  | inr no_pair ↦ by joined (cases_Bool (begins_negative (c ∷ rest))) no_pair
]
  where
    by : (joined : Bool) → ((begins_negative (c ∷ rest) ≡ true) ⊎ (begins_negative (c ∷ rest) ≡ false)) → begins_pair 40 42 (c ∷ rest) ≡ false → Prefix joined at (c ∷ rest)
    by true number no_pair = by_first true at c rest no_pair (λ apart. absurd (true≢false apart))
    by false (inl number) no_pair =
        let is = negative_is (c ∷ rest) number in
        subst (Prefix false at) (sym is.1) (negative_decided at is.0 is.2)
    by false (inr none) no_pair = by_first false at c rest no_pair (λ apart. none)

-- tokens, or a first fault
abbrev pub Read : Bool → ℕ → List ℕ → Type 0
Read joined at text = ((list : List Token) × Lexes joined at text list) ⊎ ((fault : TextFault) × HasFirstFault joined at text fault)

-- what is left after a prefix is read
reads_on : (n : ℕ) (joined : Bool) (at : ℕ) (text : List ℕ) → length text ≤ suc n → ((joined : Bool) (at : ℕ) (rest : List ℕ) → length rest ≤ n → Read joined at rest)
    → Prefix joined at text → Read joined at text
reads_on n joined at text fits on (is_fault fault breaks) = inr (fault, faults.here joined at text fault breaks)
reads_on n joined at text fits on (falls_away rest prefix) =
    by (on false (at + bytes prefix.written) rest (let whole = ap length prefix.is ∙ length-append prefix.written rest in let some = prefix.some in omega arith))
  where
    by : Read false (at + bytes prefix.written) rest → Read joined at text
    by (inl is) = inl (is.0, subst (λ t. Lexes joined at t is.0) (sym prefix.is) (tokens.dropped joined at prefix.written rest is.0 prefix.dropped is.1))
    by (inr is) = inr (is.0, subst (λ t. HasFirstFault joined at t is.0) (sym prefix.is) (faults.after_dropped joined at prefix.written rest is.0 prefix.dropped is.1))
reads_on n joined at text fits on (stands kind rest prefix) =
    by (on (joins kind) (at + bytes prefix.written) rest (let whole = ap length prefix.is ∙ length-append prefix.written rest in let some = prefix.some in omega arith))
  where
    by : Read (joins kind) (at + bytes prefix.written) rest → Read joined at text
    by (inl is) = inl (
      token_at at prefix.written kind ∷ is.0,
      subst (λ t. Lexes joined at t (token_at at prefix.written kind ∷ is.0)) (sym prefix.is)
          (tokens.token joined at prefix.written rest kind is.0 prefix.writes is.1),
    )
    by (inr is) = inr (
      is.0,
      subst (λ t. HasFirstFault joined at t is.0) (sym prefix.is) (faults.after_token joined at prefix.written rest kind is.0 prefix.writes is.1),
    )

read_within : (n : ℕ) (joined : Bool) (at : ℕ) (text : List ℕ) → length text ≤ n → Read joined at text
read_within n joined at [] fits = inl ([], tokens.nothing joined at)
read_within zero joined at (c ∷ text) fits = absurd (omega arith)
read_within (suc n) joined at (c ∷ text) fits = reads_on n joined at (c ∷ text) fits (read_within n) (prefix_decided joined at c text)

pub decided : (text : List ℕ) → Read false 0 text
decided text = read_within (length text) false 0 text (omega arith)
