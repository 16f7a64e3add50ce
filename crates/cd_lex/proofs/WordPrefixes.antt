-- The tokens at the start of a text that begin with a word or a digit, and atoms.
use Rattle.std.proofs.Common.{◌≡◌, ◌≢◌, ℕ, ℤ, pos, neg_ℤ, ◌<◌, ◌^◌, ◌==◌, Bool, true, false, true≢false, List, [], ◌∷◌, ◌++◌, refl, sym, ap, subst, ◌∙◌, length, drop, arith, bytes_eq}
use Rattle.std.specs.Prelude.{IsTrue, MatchBool}
use Rattle.std.specs.Str.{chars, IsUtf8}
use Rattle.std.proofs.Math.Utf8.{encodes}
use Rattle.std.proofs.lemmas.Str.{encodes-chars}
use Rattle.std.proofs.lemmas.Slice.Eq.{bytes_eq-Decides}
use Rattle.std.specs.Char.{is_ascii_digit}
use Rattle.std.proofs.lemmas.Bool.{and_parts}
use Rattle.std.proofs.lemmas.Int.{ints}
use mir.Syntax.{w128}
use mir.Val.{to_z, of_z}
use Rattle.cd_syntax.specs.declared.sign.Sign.{Sign}
use Rattle.cd_syntax.specs.declared.sign.Sign.TheVariants as sign
use Rattle.cd_syntax.specs.declared.tokens.TokenKind.TheVariants.{Word, Int, Atom}
use Rattle.cd_syntax.specs.declared.fault.TextFault.TheVariants.{BadChar, TooWide}
use Rattle.cd_syntax.specs.Integer.{IsInteger}
use Rattle.cd_syntax.specs.Name.{begins_word, goes_on_word, is_word, IsLabel}
use Rattle.cd_syntax.specs.Digits.{decimal_value}
use Rattle.cd_syntax.specs.Numerals.{begins_number}
use Rattle.cd_syntax.specs.Signs.{characters}
use Rattle.cd_syntax.specs.Tokens as tokens
use Rattle.cd_syntax.specs.Faults.{HasFaultHere, character as breaks_character, number as breaks_number, negative as breaks_negative}
use Rattle.cd_lex.specs.Inner.Prefixes.{BeginsWithNoWord, IsWordTo, first_word, after_word, first_digits, after_digits}
use Rattle.cd_lex.specs.Inner.Number.{with_sign}
use Rattle.cd_lex.specs.Inner.Numerals.{first_number, number_at, after_number}
use Rattle.cd_lex.specs.Inner.Standing.{IsTokenTo}
use Rattle.cd_lex.proofs.Wording.{word_stands, taken_first, taken_none, taken_and_rest, word_taken}
use Rattle.cd_lex.proofs.Numerals.{number_stands, numeral_length, digit_begins, decimal_at}

-- a word is not empty
pub word_length : (name : List ℕ) → IsTrue (is_word name) → 0 < length name
word_length [] is = absurd (true≢false (sym is))
word_length (c ∷ cs) is = omega arith

-- where a word begins, it stands there
pub word_there : (c : ℕ) (rest : List ℕ) → begins_word c ≡ true
    → IsWordTo (c ∷ rest) (first_word (c ∷ rest)) (after_word (c ∷ rest))
word_there c rest begins =
    let stood = word_stands c rest begins in
    record { is = taken_and_rest goes_on_word (c ∷ rest); stands = stood.0; ends = stood.1 }

-- what was taken off is the word
pub word_taken_off : (text : List ℕ) (c : ℕ) (rest word new : List ℕ) → text ≡ c ∷ rest
    → begins_word c ≡ true → word ≡ first_word text → new ≡ after_word text
    → IsWordTo text word new
word_taken_off text c rest word new at begins word_is new_is =
    subst (λ text. IsWordTo text word new) (sym at)
    (subst (λ word. IsWordTo (c ∷ rest) word new) (sym (word_is ∙ ap first_word at))
    (subst (IsWordTo (c ∷ rest) (first_word (c ∷ rest))) (sym (new_is
    ∙ ap after_word at)) (word_there c rest begins)))

-- and a token
pub word_token : (joined : Bool) (text word new : List ℕ) → IsWordTo text word new
    → IsTokenTo joined text (Word word) new
word_token joined text word new is = record {
  written = word;
  is = is.is;
  some = word_length word is.stands;
  writes = tokens.word word new is.stands is.ends;
}

pub word_prefix : (joined : Bool) (c : ℕ) (rest : List ℕ) → begins_word c ≡ true
    → IsTokenTo joined (c ∷ rest) (Word (first_word (c ∷ rest))) (after_word (c ∷ rest))
word_prefix joined c rest begins = word_token joined (c ∷ rest) (first_word (c ∷ rest))
    (after_word (c ∷ rest)) (word_there c rest begins)

-- a number stands where it begins, if it fits
pub number_prefix : (joined : Bool) (text : List ℕ) → begins_number text ≡ true → IsInteger (pos (number_at text))
    → IsTokenTo joined text (Int (pos (number_at text))) (after_number text)
number_prefix joined text begins fits =
    let stood = number_stands text begins in
    record {
      written = first_number text;
      is = stood.0;
      some = numeral_length (first_number text) (after_number text) (number_at text) stood.1;
      writes = tokens.number (first_number text) (after_number text) (number_at text) stood.1 fits;
    }

-- and with a `-` before it, a negative one
pub negative_prefix : (text : List ℕ) → begins_number text ≡ true → IsInteger (neg_ℤ (pos (number_at text)))
    → IsTokenTo false (45 ∷ text) (Int (neg_ℤ (pos (number_at text)))) (after_number text)
negative_prefix text begins fits =
    let stood = number_stands text begins in
    record {
      written = 45 ∷ first_number text;
      is = ap (λ text. 45 ∷ text) stood.0;
      some = omega arith;
      writes = tokens.negative (first_number text) (after_number text) (number_at text) refl stood.1 fits;
    }

-- numbers that do not fit
pub number_fault : (joined : Bool) (at : ℕ) (text : List ℕ) → begins_number text ≡ true → (IsInteger (pos (number_at text)) → ⊥)
    → HasFaultHere joined at text (TooWide at)
number_fault joined at text begins wide =
    let stood = number_stands text begins in
    subst (λ text. HasFaultHere joined at text (TooWide at)) (sym stood.0)
    (breaks_number (first_number text) (after_number text) (number_at text) stood.1 wide)

pub negative_fault : (at : ℕ) (text : List ℕ) → begins_number text ≡ true → (IsInteger (neg_ℤ (pos (number_at text))) → ⊥)
    → HasFaultHere false at (45 ∷ text) (TooWide at)
negative_fault at text begins wide =
    let stood = number_stands text begins in
    subst (λ text. HasFaultHere false at (45 ∷ text) (TooWide at)) (sym stood.0)
    (breaks_negative (first_number text) (after_number text) (number_at text) refl stood.1 wide)

-- a signed number is read back from its bits
read_back : (n : ℤ) → IsInteger n → to_z w128 (of_z w128 n) ≡ n
read_back n fits = omega (arith, ints)

-- a number as the lexer reads it: a `-` stands before it, or none
pub numeral_prefix : (negative : Bool) (text new : List ℕ) (n : ℤ) → begins_number text ≡ true
    → (n ≡ with_sign negative (number_at text)) × IsInteger (with_sign negative (number_at text))
    → new ≡ after_number text
    → ((joined : Bool) → negative ≡ false → IsTokenTo joined text (Int (to_z w128 (of_z w128 n))) new)
    × (negative ≡ true → IsTokenTo false (45 ∷ text) (Int (to_z w128 (of_z w128 n))) new)
numeral_prefix true text new n begins is after = (
  λ joined no. absurd (true≢false no),
  λ yes. subst (λ n. IsTokenTo false (45 ∷ text) (Int n) new) (sym (read_back n (subst IsInteger (sym is.0) is.1) ∙ is.0))
      (subst (IsTokenTo false (45 ∷ text) (Int (neg_ℤ (pos (number_at text))))) (sym after) (negative_prefix text begins is.1)),
)
numeral_prefix false text new n begins is after = (
  λ joined no. subst (λ n. IsTokenTo joined text (Int n) new) (sym (read_back n (subst IsInteger (sym is.0) is.1) ∙ is.0))
      (subst (IsTokenTo joined text (Int (pos (number_at text)))) (sym after) (number_prefix joined text begins is.1)),
  λ yes. absurd (true≢false (sym yes)),
)

-- a number of few digits
pub small_number : (joined : Bool) (text : List ℕ) (c : ℕ) (rest new : List ℕ) (m : ℕ) (n : ℤ)
    → text ≡ c ∷ rest → is_ascii_digit c ≡ true → m ≡ decimal_value (first_digits (c ∷ rest))
    → new ≡ after_digits (c ∷ rest) → m < 2 ^ 64 → n ≡ pos m
    → IsTokenTo joined text (Int (to_z w128 (of_z w128 n))) new
small_number joined text c rest new m n at digit value after small is =
    let fits : IsInteger (pos m) = omega (arith, ints) in
    let is_decimal = decimal_at c rest digit in
    let same = value ∙ is_decimal.0 in
    let number = numeral_prefix false (c ∷ rest) new n (digit_begins c rest digit)
    (is ∙ ap pos same, subst (λ m. IsInteger (pos m)) same fits) (after ∙ is_decimal.1) in
    subst (λ text. IsTokenTo joined text (Int (to_z w128 (of_z w128 n))) new) (sym at)
    (number.0 joined refl)

pub numeral_fault : (negative : Bool) (at : ℕ) (text : List ℕ) → begins_number text ≡ true → (IsInteger (with_sign negative (number_at text)) → ⊥)
    → ((joined : Bool) → negative ≡ false → HasFaultHere joined at text (TooWide at)) × (negative ≡ true → HasFaultHere false at (45 ∷ text) (TooWide at))
numeral_fault true at text begins wide = (λ joined no. absurd (true≢false no), λ yes. negative_fault at text begins wide)
numeral_fault false at text begins wide = (λ joined no. number_fault joined at text begins wide, λ yes. absurd (true≢false (sym yes)))

-- an atom stands after its backquote
pub atom_token : (joined : Bool) (text word new : List ℕ) → IsWordTo text word new
    → word ≢ 95 ∷ [] → IsTokenTo joined (96 ∷ text) (Atom word) new
atom_token joined text word new is other = record {
  written = 96 ∷ word;
  is = ap (λ text. 96 ∷ text) is.is;
  some = omega arith;
  writes = tokens.atom word new (is.stands, other) is.ends;
}

pub atom_prefix : (joined : Bool) (c : ℕ) (rest : List ℕ) → begins_word c ≡ true → first_word (c ∷ rest) ≢ 95 ∷ []
    → IsTokenTo joined (96 ∷ c ∷ rest) (Atom (first_word (c ∷ rest))) (after_word (c ∷ rest))
atom_prefix joined c rest begins other = atom_token joined (c ∷ rest) (first_word (c ∷ rest))
    (after_word (c ∷ rest)) (word_there c rest begins) other

-- no sign begins with a backquote
abbrev begins_backquote : List ℕ → Bool
begins_backquote [] = true
begins_backquote (c ∷ cs) = c == 96

no_backquote : (is : Sign) (rest : List ℕ) → begins_backquote (characters is ++ rest) ≡ false
no_backquote sign.StarTo rest = refl
no_backquote sign.ToStar rest = refl
no_backquote sign.StarQuestion rest = refl
no_backquote sign.PlusQuestion rest = refl
no_backquote sign.QuestionQuestion rest = refl
no_backquote sign.EqualQuestion rest = refl
no_backquote sign.To rest = refl
no_backquote sign.Arrow rest = refl
no_backquote sign.ColonColon rest = refl
no_backquote sign.Becomes rest = refl
no_backquote sign.Dots rest = refl
no_backquote sign.NotEqual rest = refl
no_backquote sign.LessEqual rest = refl
no_backquote sign.GreaterEqual rest = refl
no_backquote sign.AndAnd rest = refl
no_backquote sign.OrOr rest = refl
no_backquote sign.Semicolons rest = refl
no_backquote sign.SlashAt rest = refl
no_backquote sign.OpenParenthesis rest = refl
no_backquote sign.CloseParenthesis rest = refl
no_backquote sign.OpenBracket rest = refl
no_backquote sign.CloseBracket rest = refl
no_backquote sign.OpenBrace rest = refl
no_backquote sign.CloseBrace rest = refl
no_backquote sign.Less rest = refl
no_backquote sign.Greater rest = refl
no_backquote sign.Equal rest = refl
no_backquote sign.Question rest = refl
no_backquote sign.Star rest = refl
no_backquote sign.Plus rest = refl
no_backquote sign.Minus rest = refl
no_backquote sign.Backslash rest = refl
no_backquote sign.Or rest = refl
no_backquote sign.And rest = refl
no_backquote sign.Comma rest = refl
no_backquote sign.Semicolon rest = refl
no_backquote sign.Dot rest = refl
no_backquote sign.Slash rest = refl
no_backquote sign.Splice rest = refl
no_backquote sign.At rest = refl

-- the word at the start is the only one that may stand there; where an atom has none, its backquote begins nothing
pub lone_backquote : (joined : Bool) (at : ℕ) (text : List ℕ) → (IsLabel (first_word text) → ⊥) → HasFaultHere joined at (96 ∷ text) (BadChar at)
lone_backquote joined at text unlike = breaks_character 96 text refl refl
    (λ is begins. true≢false (ap begins_backquote begins.1 ∙ no_backquote is begins.0))
    (λ name rest is label ends.
    let parted : text ≡ name ++ rest = ap (drop 1) is in
    let same : first_word text ≡ name = ap first_word parted ∙ word_taken name rest label.0 ends in
    unlike (subst IsLabel (sym same) label))

-- no word stands where none begins
pub no_word : (text : List ℕ) → BeginsWithNoWord text → IsLabel (first_word text) → ⊥
no_word [] none label = true≢false (sym label.0)
no_word (c ∷ rest) none label = by (goes_on_word c) refl
  where
    by : (goes : Bool) → goes_on_word c ≡ goes → ⊥
    by true goes =
        let is : is_word (c ∷ first_word rest) ≡ true = ap is_word (sym (taken_first goes_on_word c rest goes)) ∙ label.0 in
        true≢false (sym (and_parts (begins_word c) _ is).0 ∙ none)
    by false fails = true≢false (sym label.0 ∙ ap is_word (taken_none goes_on_word c rest fails))

pub no_atom : (joined : Bool) (at : ℕ) (text : List ℕ) → BeginsWithNoWord text
    → HasFaultHere joined at (96 ∷ text) (BadChar at)
no_atom joined at text none = lone_backquote joined at text (no_word text none)

pub underscore_alone : (joined : Bool) (at : ℕ) (text word new : List ℕ)
    → IsWordTo text word new → word ≡ 95 ∷ [] → HasFaultHere joined at (96 ∷ text) (BadChar at)
underscore_alone joined at text word new is line =
    let same : first_word text ≡ word = ap first_word is.is ∙ word_taken word new is.stands
    is.ends in
    lone_backquote joined at text (λ label. label.1 (same ∙ line))

-- `_` as a text
underscore_bytes : (text : List ℕ) → IsUtf8 text → chars text ≡ 95 ∷ [] → text ≡ 95 ∷ []
unfolding lib.Utf8.encode
underscore_bytes text utf8 is = sym (encodes-chars text utf8) ∙ ap encodes is

underscore_chars : chars (95 ∷ []) ≡ 95 ∷ []
unfolding chars
underscore_chars = refl

pub underscore_by : (text : List ℕ) → IsUtf8 text → MatchBool (bytes_eq text (95 ∷ []))
    (chars text ≡ 95 ∷ []) (chars text ≢ 95 ∷ [])
underscore_by text utf8 = by (bytes_eq text (95 ∷ [])) refl
  where
    by : (b : Bool) → bytes_eq text (95 ∷ []) ≡ b → MatchBool b (chars text ≡ 95 ∷ [])
        (chars text ≢ 95 ∷ [])
    by true same = ap chars ((bytes_eq-Decides text (95 ∷ [])).0 same) ∙ underscore_chars
    by false differ = λ is. true≢false (sym ((bytes_eq-Decides text (95 ∷ [])).1
        (underscore_bytes text utf8 is)) ∙ differ)
