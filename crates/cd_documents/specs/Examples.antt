-- Texts as their tokens, and the values that they write.
use Rattle.std.specs.Prelude.{ℕ, ◌+◌, pos, List, [], ◌∷◌, codes}
use Rattle.cd_syntax.specs.declared.sign.Sign.{Sign as ASign}
use Rattle.cd_syntax.specs.declared.sign.Sign.TheVariants as sign
use Rattle.cd_syntax.specs.declared.tokens.Span.{Span}
use Rattle.cd_syntax.specs.declared.tokens.Token.{Token}
use Rattle.cd_syntax.specs.declared.tokens.TokenKind.TheVariants as token
use Rattle.cd_syntax.specs.Name.{Name}
use Rattle.cd_syntax.specs.Tokens.{at}
use Rattle.cd_model.specs.Thing.{Thing, Integer, Character, Atom, Pair, Xml, Record, NoField, Field}
use Rattle.cd_documents.specs.Document.{the_nil}

abbrev place : (from to : ℕ) → Span
place from to = record { from = from; to = to }

abbrev sign_at : ASign → (from : ℕ) → Token
sign_at is from = at (token.Sign is) (place from (from + 1))

abbrev digit_at : (n from : ℕ) → Token
digit_at n from = at (token.Int (pos n)) (place from (from + 1))

-- a word of one character
abbrev word_at : Name → (from : ℕ) → Token
word_at name from = at (token.Word name) (place from (from + 1))

abbrev number : ℕ → Thing
number n = Integer (pos n)

-- `1`
abbrev pub number_tokens : List Token
number_tokens = digit_at 1 0 ∷ []

abbrev pub number_value : Thing
number_value = number 1

-- `'a'`
abbrev pub character_tokens : List Token
character_tokens = at (token.Chars (codes "a")) (place 0 3) ∷ []

abbrev pub character_value : Thing
character_value = Character 97

-- the atom `nil`, which `[]` is too
abbrev pub atom_tokens : List Token
atom_tokens = at (token.Atom (codes "nil")) (place 0 4) ∷ []

abbrev pub empty_tokens : List Token
empty_tokens = sign_at sign.OpenBracket 0 ∷ sign_at sign.CloseBracket 1 ∷ []

-- `"ab"`
abbrev pub text_tokens : List Token
text_tokens = at (token.Text (codes "ab")) (place 0 4) ∷ []

abbrev pub text_value : Thing
text_value = Pair (Character 97) (Pair (Character 98) the_nil)

-- `(1,2,3)`
abbrev pub tuple_tokens : List Token
tuple_tokens = sign_at sign.OpenParenthesis 0 ∷ digit_at 1 1 ∷ sign_at sign.Comma 2 ∷ digit_at 2 3
    ∷ sign_at sign.Comma 4 ∷ digit_at 3 5 ∷ sign_at sign.CloseParenthesis 6 ∷ []

abbrev pub tuple_value : Thing
tuple_value = Pair (number 1) (Pair (number 2) (number 3))

-- `(1)`
abbrev pub group_tokens : List Token
group_tokens = sign_at sign.OpenParenthesis 0 ∷ digit_at 1 1 ∷ sign_at sign.CloseParenthesis 2 ∷ []

abbrev pub group_value : Thing
group_value = number 1

-- `['ab' 1'']`
abbrev pub sequence_tokens : List Token
sequence_tokens = sign_at sign.OpenBracket 0 ∷ at (token.Chars (codes "ab")) (place 1 5)
    ∷ digit_at 1 6 ∷ at (token.Chars []) (place 7 9) ∷ sign_at sign.CloseBracket 9 ∷ []

abbrev pub sequence_value : Thing
sequence_value = Pair (Character 97) (Pair (Character 98) (Pair (number 1) the_nil))

-- `{b=1;a=2;}`
abbrev pub record_tokens : List Token
record_tokens = sign_at sign.OpenBrace 0 ∷ word_at (codes "b") 1 ∷ sign_at sign.Equal 2
    ∷ digit_at 1 3 ∷ sign_at sign.Semicolon 4 ∷ word_at (codes "a") 5 ∷ sign_at sign.Equal 6
    ∷ digit_at 2 7 ∷ sign_at sign.Semicolon 8 ∷ sign_at sign.CloseBrace 9 ∷ []

abbrev pub record_value : Thing
record_value = Record (Field (codes "a") (number 2) (Field (codes "b") (number 1) NoField))

-- `<t a='c'b=1;>[]`
abbrev pub xml_tokens : List Token
xml_tokens = sign_at sign.Less 0 ∷ word_at (codes "t") 1 ∷ word_at (codes "a") 3
    ∷ sign_at sign.Equal 4 ∷ at (token.Chars (codes "c")) (place 5 8) ∷ word_at (codes "b") 8
    ∷ sign_at sign.Equal 9 ∷ digit_at 1 10 ∷ sign_at sign.Semicolon 11 ∷ sign_at sign.Greater 12
    ∷ sign_at sign.OpenBracket 13 ∷ sign_at sign.CloseBracket 14 ∷ []

abbrev pub xml_value : Thing
xml_value = Xml (Atom (codes "t"))
    (Record (Field (codes "a") (Character 99) (Field (codes "b") (number 1) NoField))) the_nil

-- `{a=1 b=2}`
abbrev pub no_semicolon : List Token
no_semicolon = sign_at sign.OpenBrace 0 ∷ word_at (codes "a") 1 ∷ sign_at sign.Equal 2
    ∷ digit_at 1 3 ∷ word_at (codes "b") 5 ∷ sign_at sign.Equal 6 ∷ digit_at 2 7
    ∷ sign_at sign.CloseBrace 8 ∷ []

-- `{;}`
abbrev pub only_semicolon : List Token
only_semicolon = sign_at sign.OpenBrace 0 ∷ sign_at sign.Semicolon 1 ∷ sign_at sign.CloseBrace 2
    ∷ []

-- `{a=1;a=1}`
abbrev pub label_again : List Token
label_again = sign_at sign.OpenBrace 0 ∷ word_at (codes "a") 1 ∷ sign_at sign.Equal 2
    ∷ digit_at 1 3 ∷ sign_at sign.Semicolon 4 ∷ word_at (codes "a") 5 ∷ sign_at sign.Equal 6
    ∷ digit_at 1 7 ∷ sign_at sign.CloseBrace 8 ∷ []

-- `<_>1`
abbrev pub no_tag : List Token
no_tag = sign_at sign.Less 0 ∷ word_at (codes "_") 1 ∷ sign_at sign.Greater 2 ∷ digit_at 1 3 ∷ []

-- `''`
abbrev pub no_character : List Token
no_character = at (token.Chars []) (place 0 2) ∷ []

-- `1 2`
abbrev pub two_values : List Token
two_values = digit_at 1 0 ∷ digit_at 2 2 ∷ []

-- `(1,`
abbrev pub begun_tuple : List Token
begun_tuple = sign_at sign.OpenParenthesis 0 ∷ digit_at 1 1 ∷ sign_at sign.Comma 2 ∷ []

-- `{[`
abbrev pub two_brackets : List Token
two_brackets = sign_at sign.OpenBrace 0 ∷ sign_at sign.OpenBracket 1 ∷ []
