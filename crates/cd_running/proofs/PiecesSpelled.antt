-- A text that is put together from blanks, words, signs and numbers lexes to the tokens of these: what stands where is
-- a test that computes.
use Rattle.std.proofs.Common.{◌≡◌, ℕ, ◌+◌, Bool, true, false, not, ◌&&◌, ◌||◌, List, [], ◌∷◌, ◌++◌, length, Option, Some, None, refl, sym, subst, bytes_eq, true≢false, arith}
use Rattle.std.specs.Prelude.{nat_le, pos, ◌≤◌, ◌≢◌}
use Rattle.std.specs.Char.{is_ascii_digit}
use Rattle.std.specs.List.{list_all}
use Rattle.std.proofs.lemmas.Bool.{and_parts, leb-true, le-leb}
use Rattle.std.proofs.lemmas.Int.{ints}
use Rattle.std.proofs.lemmas.Slice.Eq.{bytes_eq-Decides}
use Rattle.cd_syntax.specs.declared.sign.Sign.{Sign as ASign}
use Rattle.cd_syntax.specs.declared.tokens.Token.{Token}
use Rattle.cd_syntax.specs.declared.tokens.TokenKind.TheVariants.{Word, Int, Sign}
use Rattle.cd_syntax.specs.Name.{goes_on_word, is_word}
use Rattle.cd_syntax.specs.Digits.{AreDigits, decimal_value, BeginsWithNoDigit}
use Rattle.cd_syntax.specs.Integer.{IsInteger}
use Rattle.cd_syntax.specs.Signs.{characters, IsLongest, closes}
use Rattle.cd_syntax.specs.Comments.{begins_pair}
use Rattle.cd_syntax.specs.Numerals.{begins_negative}
use Rattle.cd_syntax.specs.Numerals as numerals
use Rattle.cd_syntax.specs.Tokens.{is_blank, EndsWord, IsLexemeOf, word, number, sign, bytes, token_at}
use Rattle.cd_syntax.specs.Tokens.{blank, Lexes, nothing, dropped, token}
use Rattle.cd_lex.specs.Inner.SignTable.{first_sign}
use Rattle.cd_lex.proofs.Signing.{first_is_longest}

-- a blank, a word, a sign, and the digits of a number
pub data Piece : Type 0 where
  Blank : (c : ℕ) → Piece
  AWord : (name : List ℕ) → Piece
  AMark : ASign → Piece
  Digits : (digits : List ℕ) → Piece

abbrev pub written : Piece → List ℕ
written (Blank c) = c ∷ []
written (AWord name) = name
written (AMark is) = characters is
written (Digits digits) = digits

-- the text of pieces, and the tokens that it lexes to from a byte on
abbrev pub text_of : List Piece → List ℕ
text_of [] = []
text_of (piece ∷ rest) = written piece ++ text_of rest

abbrev pub tokens_of : (at : ℕ) → List Piece → List Token
tokens_of at [] = []
tokens_of at (Blank c ∷ rest) = tokens_of (at + bytes (c ∷ [])) rest
tokens_of at (AWord name ∷ rest) = token_at at name (Word name) ∷ tokens_of (at + bytes name) rest
tokens_of at (AMark is ∷ rest) =
    token_at at (characters is) (Sign is) ∷ tokens_of (at + bytes (characters is)) rest
tokens_of at (Digits digits ∷ rest) =
    token_at at digits (Int (pos (decimal_value digits))) ∷ tokens_of (at + bytes digits) rest

-- tests of what stands after a piece
abbrev ends_word : List ℕ → Bool
ends_word [] = true
ends_word (c ∷ cs) = not (goes_on_word c)

abbrev pub ends_digits : List ℕ → Bool
ends_digits [] = true
ends_digits (c ∷ cs) = not (is_ascii_digit c)

abbrev are_some : List ℕ → Bool
are_some [] = false
are_some (c ∷ cs) = true

abbrev pub is_same : Option ASign → ASign → Bool
is_same None is = false
is_same (Some found) is = bytes_eq (characters found) (characters is)

-- the piece stands before the text, joined to what stands before it or not
abbrev pub stands : Bool → Piece → List ℕ → Bool
stands joined (Blank c) text = is_blank c
stands joined (AWord name) text = is_word name && ends_word text
stands joined (AMark is) text =
    is_same (first_sign (characters is ++ text)) is
    && (not (begins_pair 40 42 (characters is ++ text)) && (joined || not (begins_negative (characters is ++ text))))
stands joined (Digits digits) text =
    (list_all is_ascii_digit digits && are_some digits)
    && (ends_digits text && nat_le (decimal_value digits) 170141183460469231731687303715884105727)

abbrev joins_next : Piece → Bool
joins_next (Blank c) = false
joins_next (AMark is) = closes is
joins_next _ = true

abbrev pub are_right : Bool → List Piece → Bool
are_right joined [] = true
are_right joined (piece ∷ rest) = stands joined piece (text_of rest) && are_right (joins_next piece) rest

-- what passes the tests stands there
negated : (b : Bool) → not b ≡ true → b ≡ false
negated true is = absurd (true≢false (sym is))
negated false is = refl

word_ends : (text : List ℕ) → ends_word text ≡ true → EndsWord text
word_ends [] is = tt
word_ends (c ∷ cs) is = negated (goes_on_word c) is

digits_end : (text : List ℕ) → ends_digits text ≡ true → BeginsWithNoDigit text
digits_end [] is = tt
digits_end (c ∷ cs) is = negated (is_ascii_digit c) is

not_none : (digits : List ℕ) → are_some digits ≡ true → digits ≢ []
not_none [] some same = true≢false (sym some)
not_none (c ∷ cs) some same = absurd cc

fits : (n : ℕ) → nat_le n 170141183460469231731687303715884105727 ≡ true → IsInteger (pos n)
fits n small =
    let below = leb-true n 170141183460469231731687303715884105727 small in
    (omega (arith, ints), omega (arith, ints))

is_longest : (text : List ℕ) (is : ASign) (found : Option ASign) → first_sign text ≡ found → is_same found is ≡ true
    → IsLongest is text
is_longest text is None at same = absurd (true≢false (sym same))
is_longest text is (Some found) at same =
    let longest = first_is_longest text found at in
    let equal = (bytes_eq-Decides (characters found) (characters is)).0 same in
    record {
      stands = (longest.stands.0, subst (λ front. text ≡ front ++ longest.stands.0) equal longest.stands.1);
      longest = λ other begins. subst (λ front. length (characters other) ≤ length front) equal
          (longest.longest other begins);
    }

apart : (joined negative : Bool) → (joined || not negative) ≡ true → joined ≡ false → negative ≡ false
apart true negative is other = absurd (true≢false other)
apart false negative is other = negated negative is

word_stands : (joined : Bool) (name text : List ℕ) → stands joined (AWord name) text ≡ true
    → IsLexemeOf joined name text (Word name)
word_stands joined name text is =
    let both = and_parts (is_word name) (ends_word text) is in
    word name text both.0 (word_ends text both.1)

mark_stands : (joined : Bool) (is : ASign) (text : List ℕ) → stands joined (AMark is) text ≡ true
    → IsLexemeOf joined (characters is) text (Sign is)
mark_stands joined is text so =
    let whole = characters is ++ text in
    let both = and_parts (is_same (first_sign whole) is)
    (not (begins_pair 40 42 whole) && (joined || not (begins_negative whole))) so in
    let more = and_parts (not (begins_pair 40 42 whole)) (joined || not (begins_negative whole)) both.1 in
    sign is text (is_longest whole is (first_sign whole) refl both.0) (negated (begins_pair 40 42 whole) more.0)
    (apart joined (begins_negative whole) more.1)

digits_stand : (joined : Bool) (digits text : List ℕ) → stands joined (Digits digits) text ≡ true
    → IsLexemeOf joined digits text (Int (pos (decimal_value digits)))
digits_stand joined digits text is =
    let both = and_parts (list_all is_ascii_digit digits && are_some digits)
    (ends_digits text && nat_le (decimal_value digits) 170141183460469231731687303715884105727) is in
    let are = and_parts (list_all is_ascii_digit digits) (are_some digits) both.0 in
    let end = and_parts (ends_digits text)
    (nat_le (decimal_value digits) 170141183460469231731687303715884105727) both.1 in
    number digits text (decimal_value digits)
    (numerals.decimal digits text (are.0, not_none digits are.1) (digits_end text end.0)) (fits (decimal_value digits) end.1)

-- digits stand where no digit comes after them
pub digits_right : (joined : Bool) (digits text : List ℕ) → AreDigits digits → ends_digits text ≡ true
    → decimal_value digits ≤ 170141183460469231731687303715884105727 → stands joined (Digits digits) text ≡ true
digits_right joined [] text are ends small = absurd (are.1 refl)
digits_right joined (c ∷ cs) text are ends small =
    let fits = le-leb (decimal_value (c ∷ cs)) 170141183460469231731687303715884105727 small in
    rw (are.0, ends, fits) refl

-- the text of pieces lexes to their tokens
pub spelled : (joined : Bool) (at : ℕ) (pieces : List Piece) → are_right joined pieces ≡ true
    → Lexes joined at (text_of pieces) (tokens_of at pieces)
spelled joined at [] right = nothing joined at
spelled joined at (Blank c ∷ rest) right =
    let both = and_parts (is_blank c) (are_right false rest) right in
    dropped joined at (c ∷ []) (text_of rest) (tokens_of (at + bytes (c ∷ [])) rest) (blank c both.0)
    (spelled false (at + bytes (c ∷ [])) rest both.1)
spelled joined at (AWord name ∷ rest) right =
    let both = and_parts (stands joined (AWord name) (text_of rest)) (are_right true rest) right in
    token joined at name (text_of rest) (Word name) (tokens_of (at + bytes name) rest)
    (word_stands joined name (text_of rest) both.0) (spelled true (at + bytes name) rest both.1)
spelled joined at (AMark is ∷ rest) right =
    let both = and_parts (stands joined (AMark is) (text_of rest)) (are_right (closes is) rest) right in
    token joined at (characters is) (text_of rest) (Sign is) (tokens_of (at + bytes (characters is)) rest)
    (mark_stands joined is (text_of rest) both.0) (spelled (closes is) (at + bytes (characters is)) rest both.1)
spelled joined at (Digits digits ∷ rest) right =
    let both = and_parts (stands joined (Digits digits) (text_of rest)) (are_right true rest) right in
    token joined at digits (text_of rest) (Int (pos (decimal_value digits))) (tokens_of (at + bytes digits) rest)
    (digits_stand joined digits (text_of rest) both.0) (spelled true (at + bytes digits) rest both.1)
