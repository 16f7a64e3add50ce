-- What stands at the start of a text, and what is left after it.
use Rattle.std.specs.Prelude.{◌≡◌, ℕ, ◌<◌, Bool, List, [], ◌∷◌, ◌++◌, length}
use Rattle.cd_syntax.specs.declared.sign.Sign.{Sign}
use Rattle.cd_syntax.specs.declared.tokens.TokenKind.{TokenKind}
use Rattle.cd_syntax.specs.Signs.{characters, BeginsWith, IsLongest}
use Rattle.cd_syntax.specs.Tokens.{IsDropped, IsLexemeOf}
use Rattle.cd_lex.specs.declared.piece.Piece.{Piece}
use Rattle.cd_lex.specs.declared.piece.Piece.TheVariants.{Dropped, Token}
use Rattle.cd_lex.specs.Lexing.{with_characters}

-- a blank or a comment
pub record IsDroppedTo (text new : List ℕ) : Type 0 where
  pub written : List ℕ
  pub is : text ≡ written ++ new
  pub some : 0 < length written
  pub dropped : IsDropped written

-- a token
pub record IsTokenTo (joined : Bool) (text : List ℕ) (kind : TokenKind)
    (new : List ℕ) : Type 0 where
  pub written : List ℕ
  pub is : text ≡ written ++ new
  pub some : 0 < length written
  pub writes : IsLexemeOf joined written new kind

abbrev pub Stands : Bool → List ℕ → Piece → (new characters : List ℕ) → Type 0
Stands joined text Dropped new spelled = IsDroppedTo text new
Stands joined text (Token kind) new spelled =
    IsTokenTo joined text (with_characters kind spelled) new

-- no sign stands first, but one that begins with `(` or `-`
abbrev pub BeginsWithNoSign : List ℕ → Type 0
BeginsWithNoSign [] = Unit {0}
BeginsWithNoSign (c ∷ cs) = (c ≡ 40 → ⊥) → (c ≡ 45 → ⊥)
    → (is : Sign) → BeginsWith (c ∷ cs) is → ⊥

-- the longest sign
pub record IsSignTo (text : List ℕ) (is : Sign) (new : List ℕ) : Type 0 where
  pub written : text ≡ characters is ++ new
  pub longest : IsLongest is text
