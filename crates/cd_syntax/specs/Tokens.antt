-- The tokens of a text, a list of characters, in the whole language.
use Rattle.std.specs.Prelude.{◌≡◌, ℕ, pos, ◌+◌, ◌==◌, ◌||◌, neg_ℤ, Bool, true, false, List}
use Rattle.std.specs.Prelude.{[], ◌∷◌, ◌++◌, length, IsTrue, encode_utf8_all}
use Rattle.cd_syntax.specs.declared.sign.Sign.{Sign as ASign}
use Rattle.cd_syntax.specs.declared.tokens.Span.{Span}
use Rattle.cd_syntax.specs.declared.tokens.Token.{Token}
use Rattle.cd_syntax.specs.declared.tokens.TokenKind.{TokenKind}
use Rattle.cd_syntax.specs.declared.tokens.TokenKind.TheVariants.{Word, Int, Chars, Text, Atom}
use Rattle.cd_syntax.specs.declared.tokens.TokenKind.TheVariants.{Sign}
use Rattle.cd_syntax.specs.Integer.{IsInteger}
use Rattle.cd_syntax.specs.Name.{goes_on_word, is_word, IsLabel}
use Rattle.cd_syntax.specs.Numerals.{IsNumeral, begins_negative}
use Rattle.cd_syntax.specs.Signs.{characters, IsLongest, closes}
use Rattle.cd_syntax.specs.Quotes.{Quotes}
use Rattle.cd_syntax.specs.Comments.{begins_pair, IsComment}

-- space, tab, line feed or carriage return
abbrev pub is_blank : ℕ → Bool
is_blank c = (c == 32) || (c == 9) || (c == 10) || (c == 13)

-- a word is all the letters, digits and `_` that there are
abbrev pub EndsWord : List ℕ → Type 0
EndsWord [] = Unit {0}
EndsWord (c ∷ cs) = goes_on_word c ≡ false

-- what is written is dropped: a blank or a comment
pub data IsDropped : List ℕ → Type 0 where
  blank : (c : ℕ) → IsTrue (is_blank c) → IsDropped (c ∷ [])
  comment : (written : List ℕ) → IsComment written → IsDropped written

-- What is written is a token, with the text after it. It is joined where a token ends right before
-- it that is no sign, or is `)`, `]` or `}`: then a `-` is no sign of a number
pub data IsLexemeOf (joined : Bool) : (written text : List ℕ) → TokenKind → Type 0 where
  word : (name text : List ℕ) → IsTrue (is_word name) → EndsWord text
      → IsLexemeOf joined name text (Word name)
  -- a number fits 128 bits
  number : (written text : List ℕ) (n : ℕ) → IsNumeral written text n → IsInteger (pos n)
      → IsLexemeOf joined written text (Int (pos n))
  negative : (written text : List ℕ) (n : ℕ) → joined ≡ false → IsNumeral written text n
      → IsInteger (neg_ℤ (pos n))
      → IsLexemeOf joined (45 ∷ written) text (Int (neg_ℤ (pos n)))
  chars : (written characters text : List ℕ) → Quotes 39 written characters
      → IsLexemeOf joined (39 ∷ written ++ 39 ∷ []) text (Chars characters)
  text : (written characters text : List ℕ) → Quotes 34 written characters
      → IsLexemeOf joined (34 ∷ written ++ 34 ∷ []) text (Text characters)
  -- a backquote and at once a word other than `_`
  atom : (name text : List ℕ) → IsLabel name → EndsWord text
      → IsLexemeOf joined (96 ∷ name) text (Atom name)
  -- the longest sign that stands there, but no `(*`, and no `-` of a number
  sign : (is : ASign) (text : List ℕ) → IsLongest is (characters is ++ text)
      → begins_pair 40 42 (characters is ++ text) ≡ false
      → (joined ≡ false → begins_negative (characters is ++ text) ≡ false)
      → IsLexemeOf joined (characters is) text (Sign is)

-- whether what follows such a token at once is joined to it
abbrev pub joins : TokenKind → Bool
joins (Sign is) = closes is
joins _ = true

-- how many bytes characters take
abbrev pub bytes : List ℕ → ℕ
bytes written = length (encode_utf8_all written)

-- the token that stands so many bytes after the start of a text
abbrev pub token_at : ℕ → List ℕ → TokenKind → Token
token_at at written kind = record {
  kind = kind;
  span = record { from = at; to = at + bytes written };
}

-- the text, which begins at this byte, lexes to these tokens
pub data Lexes : (joined : Bool) (at : ℕ) → List ℕ → List Token → Type 0 where
  nothing : (joined : Bool) (at : ℕ) → Lexes joined at [] []
  dropped : (joined : Bool) (at : ℕ) (written text : List ℕ) (tokens : List Token)
      → IsDropped written
      → Lexes false (at + bytes written) text tokens → Lexes joined at (written ++ text) tokens
  token : (joined : Bool) (at : ℕ) (written text : List ℕ) (kind : TokenKind) (tokens : List Token)
      → IsLexemeOf joined written text kind
      → Lexes (joins kind) (at + bytes written) text tokens
      → Lexes joined at (written ++ text) (token_at at written kind ∷ tokens)

-- a token of a kind, at any place
abbrev pub at : TokenKind → Span → Token
at kind span = record { kind = kind; span = span }
