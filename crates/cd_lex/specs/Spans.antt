-- Where tokens stand in their text.
use Rattle.std.specs.Prelude.{◌≡◌, ℕ, ◌<◌, ◌≤◌, Bool, List, [], ◌∷◌, ◌++◌}
use Rattle.cd_syntax.specs.declared.tokens.Token.{Token}
use Rattle.cd_syntax.specs.Tokens.{bytes, IsLexemeOf}

-- from this byte on, each token begins where the one before it ends or later, and holds a byte at
-- least
abbrev pub AreInOrder : ℕ → List Token → Type 0
AreInOrder at [] = Unit {0}
AreInOrder at (token ∷ tokens) = (at ≤ token.span.from) × (token.span.from < token.span.to)
    × AreInOrder token.span.to tokens

-- the token is what the characters between the bytes of its span write
pub record IsItsSlice (text : List ℕ) (token : Token) : Type 0 where
  pub prefix : List ℕ
  pub written : List ℕ
  pub rest : List ℕ
  pub joined : Bool
  pub is : text ≡ prefix ++ written ++ rest
  pub from : token.span.from ≡ bytes prefix
  pub to : token.span.to ≡ bytes (prefix ++ written)
  pub writes : IsLexemeOf joined written rest token.kind

abbrev pub AreSlices : List ℕ → List Token → Type 0
AreSlices text [] = Unit {0}
AreSlices text (token ∷ tokens) = IsItsSlice text token × AreSlices text tokens
