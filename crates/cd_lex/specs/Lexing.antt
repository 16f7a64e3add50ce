-- What a lexer gives, one token after the other.
use Rattle.std.specs.Prelude.{◌<◌, ◌-◌, ℕ, Bool, List, [], ◌∷◌, length, IsTrue}
use Rattle.cd_syntax.specs.declared.tokens.Span.{Span}
use Rattle.cd_syntax.specs.declared.tokens.Token.{Token}
use Rattle.cd_syntax.specs.declared.tokens.TokenKind.{TokenKind}
use Rattle.cd_syntax.specs.declared.tokens.TokenKind.TheVariants as token
use Rattle.cd_syntax.specs.declared.fault.TextFault.{TextFault}
use Rattle.cd_syntax.specs.Name.{Name, IsLabel, is_word}
use Rattle.cd_syntax.specs.Tokens.{Lexes, bytes}
use Rattle.cd_syntax.specs.Faults.{HasFirstFault}
use Rattle.cd_lex.specs.declared.lexer.Kind.{Kind}
use Rattle.cd_lex.specs.declared.lexer.Kind.TheVariants as kind
use Rattle.cd_lex.specs.declared.lexer.Lexeme.{Lexeme}
use Rattle.cd_lex.specs.declared.lexer.Lexeme.TheVariants.{Token as AToken, End}
use Rattle.cd_lex.specs.declared.lexer.Lexer.{Lexer}

-- the characters that are left, the byte at which they begin, and whether what stands there is
-- joined to the token before it
abbrev pub left : Lexer → List ℕ
left lexer = lexer.cursor

abbrev pub place : Lexer → ℕ
place lexer = lexer.end - bytes lexer.cursor

abbrev pub is_joined : Lexer → Bool
is_joined lexer = lexer.joined

-- the characters of the token that was read last
abbrev pub spelled : Lexer → List ℕ
spelled lexer = lexer.buffer

-- what is left lexes to these tokens, and has this first fault
abbrev pub LexesOn : Lexer → List Token → Type 0
LexesOn lexer tokens = Lexes (is_joined lexer) (place lexer) (left lexer) tokens

abbrev pub FailsOn : Lexer → TextFault → Type 0
FailsOn lexer fault = HasFirstFault (is_joined lexer) (place lexer) (left lexer) fault

-- a token of this kind with these characters
abbrev pub with_characters : Kind → Name → TokenKind
with_characters kind.Word name = token.Word name
with_characters (kind.Int n) name = token.Int n
with_characters kind.Chars name = token.Chars name
with_characters kind.Text name = token.Text name
with_characters kind.Atom name = token.Atom name
with_characters (kind.Sign is) name = token.Sign is

abbrev pub token_with : Kind → Span → Name → Token
token_with is span name = record { kind = with_characters is name; span = span }

-- the characters of a word are a word, and those of an atom are a word but `_`
abbrev pub IsSoundKind : TokenKind → Type 0
IsSoundKind (token.Word name) = IsTrue (is_word name)
IsSoundKind (token.Atom name) = IsLabel name
IsSoundKind _ = Unit {0}

-- the token stands before what is left now
pub record IsToken (old new : Lexer) (next : Token) : Type 0 where
  pub lexes : (more : List Token) → LexesOn new more → LexesOn old (next ∷ more)
  pub fails : (fault : TextFault) → FailsOn new fault → FailsOn old fault
  pub shorter : length (left new) < length (left old)
  pub sound : IsSoundKind next.kind

abbrev pub IsNext : (old : Lexer) → Lexeme → (new : Lexer) → Type 0
IsNext old (AToken is span) new = IsToken old new (token_with is span (spelled new))
IsNext old End new = LexesOn old []
