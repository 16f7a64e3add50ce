-- What a token is in a document, and the token, as data.
use Rattle.std.proofs.Common.{◌≡◌, ◌≢◌, ap, refl, true≢false, sym, ◌∙◌, ℕ, ℤ, Bool, true, false, List}
use Rattle.std.proofs.lemmas.Slice.Eq.{bytes_eq-Decides}
use Rattle.std.specs.Prelude.{if◌then◌else◌, codes, bytes_eq}
use Rattle.cd_syntax.specs.declared.sign.Sign.{Sign as ASign}
use Rattle.cd_syntax.specs.declared.sign.Sign.TheVariants as sign
use Rattle.cd_syntax.specs.declared.tokens.Span.{Span}
use Rattle.cd_syntax.specs.declared.tokens.Token.{Token}
use Rattle.cd_syntax.specs.declared.tokens.TokenKind.{TokenKind}
use Rattle.cd_syntax.specs.declared.tokens.TokenKind.TheVariants as token
use Rattle.cd_syntax.specs.Name.{Name}
use Rattle.cd_syntax.specs.Tokens.{at}
use Rattle.cd_documents.specs.Terminal as is
use Rattle.cd_documents.specs.Terminal.{Terminal, terminal}

pub data Seen : Token → Terminal → Type 0 where
  number : (n : ℤ) (span : Span) → Seen (at (token.Int n) span) (is.Number n)
  letters : (cs : List ℕ) (span : Span) → Seen (at (token.Chars cs) span) (is.Letters cs)
  text : (cs : List ℕ) (span : Span) → Seen (at (token.Text cs) span) (is.Text cs)
  atom : (name : Name) (span : Span) → Seen (at (token.Atom name) span) (is.AnAtom name)
  label : (name : Name) (span : Span) → name ≢ codes "_" → Seen (at (token.Word name) span) (is.Label name)
  open_tuple : (span : Span) → Seen (at (token.Sign sign.OpenParenthesis) span) is.OpenTuple
  close_tuple : (span : Span) → Seen (at (token.Sign sign.CloseParenthesis) span) is.CloseTuple
  open_sequence : (span : Span) → Seen (at (token.Sign sign.OpenBracket) span) is.OpenSequence
  close_sequence : (span : Span) → Seen (at (token.Sign sign.CloseBracket) span) is.CloseSequence
  open_record : (span : Span) → Seen (at (token.Sign sign.OpenBrace) span) is.OpenRecord
  close_record : (span : Span) → Seen (at (token.Sign sign.CloseBrace) span) is.CloseRecord
  open_tag : (span : Span) → Seen (at (token.Sign sign.Less) span) is.OpenTag
  close_tag : (span : Span) → Seen (at (token.Sign sign.Greater) span) is.CloseTag
  equal : (span : Span) → Seen (at (token.Sign sign.Equal) span) is.Equal
  comma : (span : Span) → Seen (at (token.Sign sign.Comma) span) is.Comma
  semicolon : (span : Span) → Seen (at (token.Sign sign.Semicolon) span) is.Semicolon
  other : (token : Token) → Seen token is.NoTerminal

-- what this token is
abbrev pub IsSeen : Token → Type 0
IsSeen one = (is : Terminal) × Seen one is × (terminal one.kind ≡ is)

seen_word : (b : Bool) (name : Name) (span : Span) → bytes_eq name (codes "_") ≡ b → IsSeen (at (token.Word name) span)
seen_word true name span underscore =
    (is.NoTerminal, other (at (token.Word name) span), ap (λ (b : Bool). if b then is.NoTerminal else is.Label name) underscore)
seen_word false name span word = (
  is.Label name,
  label name span (λ same. true≢false (sym ((bytes_eq-Decides name (codes "_")).1 same) ∙ word)),
  ap (λ (b : Bool). if b then is.NoTerminal else is.Label name) word,
)

seen_sign : (one : ASign) (span : Span) → IsSeen (at (token.Sign one) span)
seen_sign sign.StarTo span = (is.NoTerminal, other (at (token.Sign sign.StarTo) span), refl)
seen_sign sign.ToStar span = (is.NoTerminal, other (at (token.Sign sign.ToStar) span), refl)
seen_sign sign.StarQuestion span = (is.NoTerminal, other (at (token.Sign sign.StarQuestion) span), refl)
seen_sign sign.PlusQuestion span = (is.NoTerminal, other (at (token.Sign sign.PlusQuestion) span), refl)
seen_sign sign.QuestionQuestion span = (is.NoTerminal, other (at (token.Sign sign.QuestionQuestion) span), refl)
seen_sign sign.EqualQuestion span = (is.NoTerminal, other (at (token.Sign sign.EqualQuestion) span), refl)
seen_sign sign.To span = (is.NoTerminal, other (at (token.Sign sign.To) span), refl)
seen_sign sign.Arrow span = (is.NoTerminal, other (at (token.Sign sign.Arrow) span), refl)
seen_sign sign.ColonColon span = (is.NoTerminal, other (at (token.Sign sign.ColonColon) span), refl)
seen_sign sign.Becomes span = (is.NoTerminal, other (at (token.Sign sign.Becomes) span), refl)
seen_sign sign.Dots span = (is.NoTerminal, other (at (token.Sign sign.Dots) span), refl)
seen_sign sign.NotEqual span = (is.NoTerminal, other (at (token.Sign sign.NotEqual) span), refl)
seen_sign sign.LessEqual span = (is.NoTerminal, other (at (token.Sign sign.LessEqual) span), refl)
seen_sign sign.GreaterEqual span = (is.NoTerminal, other (at (token.Sign sign.GreaterEqual) span), refl)
seen_sign sign.AndAnd span = (is.NoTerminal, other (at (token.Sign sign.AndAnd) span), refl)
seen_sign sign.OrOr span = (is.NoTerminal, other (at (token.Sign sign.OrOr) span), refl)
seen_sign sign.Semicolons span = (is.NoTerminal, other (at (token.Sign sign.Semicolons) span), refl)
seen_sign sign.SlashAt span = (is.NoTerminal, other (at (token.Sign sign.SlashAt) span), refl)
seen_sign sign.OpenParenthesis span = (is.OpenTuple, open_tuple span, refl)
seen_sign sign.CloseParenthesis span = (is.CloseTuple, close_tuple span, refl)
seen_sign sign.OpenBracket span = (is.OpenSequence, open_sequence span, refl)
seen_sign sign.CloseBracket span = (is.CloseSequence, close_sequence span, refl)
seen_sign sign.OpenBrace span = (is.OpenRecord, open_record span, refl)
seen_sign sign.CloseBrace span = (is.CloseRecord, close_record span, refl)
seen_sign sign.Less span = (is.OpenTag, open_tag span, refl)
seen_sign sign.Greater span = (is.CloseTag, close_tag span, refl)
seen_sign sign.Equal span = (is.Equal, equal span, refl)
seen_sign sign.Question span = (is.NoTerminal, other (at (token.Sign sign.Question) span), refl)
seen_sign sign.Star span = (is.NoTerminal, other (at (token.Sign sign.Star) span), refl)
seen_sign sign.Plus span = (is.NoTerminal, other (at (token.Sign sign.Plus) span), refl)
seen_sign sign.Minus span = (is.NoTerminal, other (at (token.Sign sign.Minus) span), refl)
seen_sign sign.Backslash span = (is.NoTerminal, other (at (token.Sign sign.Backslash) span), refl)
seen_sign sign.Or span = (is.NoTerminal, other (at (token.Sign sign.Or) span), refl)
seen_sign sign.And span = (is.NoTerminal, other (at (token.Sign sign.And) span), refl)
seen_sign sign.Comma span = (is.Comma, comma span, refl)
seen_sign sign.Semicolon span = (is.Semicolon, semicolon span, refl)
seen_sign sign.Dot span = (is.NoTerminal, other (at (token.Sign sign.Dot) span), refl)
seen_sign sign.Slash span = (is.NoTerminal, other (at (token.Sign sign.Slash) span), refl)
seen_sign sign.Splice span = (is.NoTerminal, other (at (token.Sign sign.Splice) span), refl)
seen_sign sign.At span = (is.NoTerminal, other (at (token.Sign sign.At) span), refl)

seen_kind : (kind : TokenKind) (span : Span) → IsSeen (at kind span)
seen_kind (token.Int n) span = (is.Number n, number n span, refl)
seen_kind (token.Chars cs) span = (is.Letters cs, letters cs span, refl)
seen_kind (token.Text cs) span = (is.Text cs, text cs span, refl)
seen_kind (token.Atom name) span = (is.AnAtom name, atom name span, refl)
seen_kind (token.Word name) span = seen_word (bytes_eq name (codes "_")) name span refl
seen_kind (token.Sign one) span = seen_sign one span

pub seen : (one : Token) → IsSeen one
seen one = seen_kind one.kind one.span
