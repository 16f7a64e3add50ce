-- How far a text is read.
use Rattle.std.specs.Prelude.{ℕ, ◌-◌, ◌<◌, ◌≤◌, Bool, false, List, [], ◌∷◌, ◌++◌, length}
use Rattle.cd_syntax.specs.declared.tokens.Token.{Token as AToken}
use Rattle.cd_syntax.specs.declared.fault.TextFault.{TextFault}
use Rattle.cd_syntax.specs.Tokens.{bytes, Lexes, joins}
use Rattle.cd_syntax.specs.Faults.{HasFirstFault}
use Rattle.cd_lex.specs.declared.lexer.Lexeme.{Lexeme}
use Rattle.cd_lex.specs.declared.lexer.Lexeme.TheVariants.{Token, End}
use Rattle.cd_lex.specs.declared.lexer.Lexer.{Lexer}
use Rattle.cd_lex.specs.Lexing.{token_with, LexesOn, FailsOn, left, IsSoundKind}

-- the end of a text, whose whole ends at this byte, lexes to these tokens, and has this first fault
abbrev pub LexesUpTo : (end : ℕ) (joined : Bool) → List ℕ → List AToken → Type 0
LexesUpTo end joined text tokens = Lexes joined (end - bytes text) text tokens

abbrev pub FailsUpTo : (end : ℕ) (joined : Bool) → List ℕ → TextFault → Type 0
FailsUpTo end joined text fault = HasFirstFault joined (end - bytes text) text fault

-- these tokens are read: those of what is left follow them, and its first fault is that of the text
pub record IsReadTo (end : ℕ) (joined : Bool) (text : List ℕ) (tokens : List AToken)
    (joined_then : Bool) (left : List ℕ) : Type 0 where
  pub lexes : (more : List AToken) → LexesUpTo end joined_then left more
      → LexesUpTo end joined text (tokens ++ more)
  pub fails : (fault : TextFault) → FailsUpTo end joined_then left fault
      → FailsUpTo end joined text fault
  pub fits : bytes left ≤ end
  pub within : length left ≤ length text

-- a token is read, which is sound, and no less than one character
abbrev pub IsTokenRead : (end : ℕ) (joined : Bool) → List ℕ → AToken → List ℕ → Type 0
IsTokenRead end joined text token left =
    IsReadTo end joined text (token ∷ []) (joins token.kind) left
    × (length left < length text) × IsSoundKind token.kind

abbrev pub IsLexeme : (end : ℕ) (joined : Bool) → List ℕ → Lexeme → (new characters : List ℕ)
    → Type 0
IsLexeme end joined text (Token is span) new characters =
    IsTokenRead end joined text (token_with is span characters) new
IsLexeme end joined text End new characters = LexesUpTo end joined text []

-- a lexer has read these tokens of the text
pub record HasRead (text : List ℕ) (tokens : List AToken) (lexer : Lexer) : Type 0 where
  pub lexes : (more : List AToken) → LexesOn lexer more → Lexes false 0 text (tokens ++ more)
  pub fails : (fault : TextFault) → FailsOn lexer fault → HasFirstFault false 0 text fault
