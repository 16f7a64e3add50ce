-- What tokens are in documents, and which brackets are open after tokens.
use Rattle.std.specs.Prelude.{ℕ, zero, suc, ℤ, Bool, true, false, List, [], ◌∷◌, codes, bytes_eq}
use Rattle.std.specs.Prelude.{if◌then◌else◌}
use Rattle.cd_syntax.specs.declared.sign.Sign.TheVariants as sign
use Rattle.cd_syntax.specs.declared.tokens.Token.{Token}
use Rattle.cd_syntax.specs.declared.tokens.TokenKind.{TokenKind}
use Rattle.cd_syntax.specs.declared.tokens.TokenKind.TheVariants as token
use Rattle.cd_syntax.specs.Name.{Name}

-- what a token is in a document; no document has the other ones
pub data Terminal : Type 0 where
  Number : ℤ → Terminal
  Letters : List ℕ → Terminal
  Text : List ℕ → Terminal
  AnAtom : Name → Terminal
  Label : Name → Terminal
  OpenTuple : Terminal
  CloseTuple : Terminal
  OpenSequence : Terminal
  CloseSequence : Terminal
  OpenRecord : Terminal
  CloseRecord : Terminal
  OpenTag : Terminal
  CloseTag : Terminal
  Equal : Terminal
  Comma : Terminal
  Semicolon : Terminal
  NoTerminal : Terminal

abbrev pub terminal : TokenKind → Terminal
terminal (token.Int n) = Number n
terminal (token.Chars cs) = Letters cs
terminal (token.Text cs) = Text cs
terminal (token.Atom name) = AnAtom name
terminal (token.Word name) = if bytes_eq name (codes "_") then NoTerminal else Label name
terminal (token.Sign sign.OpenParenthesis) = OpenTuple
terminal (token.Sign sign.CloseParenthesis) = CloseTuple
terminal (token.Sign sign.OpenBracket) = OpenSequence
terminal (token.Sign sign.CloseBracket) = CloseSequence
terminal (token.Sign sign.OpenBrace) = OpenRecord
terminal (token.Sign sign.CloseBrace) = CloseRecord
terminal (token.Sign sign.Less) = OpenTag
terminal (token.Sign sign.Greater) = CloseTag
terminal (token.Sign sign.Equal) = Equal
terminal (token.Sign sign.Comma) = Comma
terminal (token.Sign sign.Semicolon) = Semicolon
terminal (token.Sign is) = NoTerminal

-- an opening bracket
abbrev pub opens : Terminal → Bool
opens OpenTuple = true
opens OpenSequence = true
opens OpenRecord = true
opens OpenTag = true
opens _ = false

-- a bracket that is open; a `<` is a tag until its `>`, and then it is open until its content ends
pub data Bracket : Type 0 where
  ATuple : Bracket
  ASequence : Bracket
  ARecord : Bracket
  ATag : Bracket
  AContent : Bracket

-- a value ends each content that it is
abbrev pub after_value : List Bracket → List Bracket
after_value (AContent ∷ open_brackets) = after_value open_brackets
after_value open_brackets = open_brackets

-- which brackets are open after a token, the last one first
abbrev pub opened : Terminal → List Bracket → List Bracket
opened OpenTuple before = ATuple ∷ before
opened OpenSequence before = ASequence ∷ before
opened OpenRecord before = ARecord ∷ before
opened OpenTag before = ATag ∷ before
opened CloseTuple (ATuple ∷ before) = after_value before
opened CloseSequence (ASequence ∷ before) = after_value before
opened CloseRecord (ARecord ∷ before) = after_value before
opened CloseTag (ATag ∷ before) = AContent ∷ before
opened (Number n) before = after_value before
opened (Letters cs) before = after_value before
opened (Text cs) before = after_value before
opened (AnAtom name) before = after_value before
opened _ before = before

abbrev pub open_from : List Bracket → List Token → List Bracket
open_from before [] = before
open_from before (first ∷ tokens) = open_from (opened (terminal first.kind) before) tokens

abbrev pub open_after : List Token → List Bracket
open_after tokens = open_from [] tokens

-- the token with this number is an opening bracket
abbrev pub opens_at : List Token → ℕ → Bool
opens_at [] index = false
opens_at (first ∷ tokens) zero = opens (terminal first.kind)
opens_at (first ∷ tokens) (suc index) = opens_at tokens index
