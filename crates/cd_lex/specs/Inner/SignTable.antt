-- The signs, longest first, and the first of them that stands at the start of a text.
use Rattle.std.specs.Prelude.{◌≡◌, ◌⊎◌, ℕ, Bool, List, [], ◌∷◌, Option, eqb, find}
use Rattle.std.specs.List.{starts_with}
use Rattle.cd_syntax.specs.Signs.{characters}
use Rattle.cd_syntax.specs.declared.sign.Sign.{Sign}
use Rattle.cd_syntax.specs.declared.sign.Sign.TheVariants as sign
use Rattle.cd_lex.specs.Inner.Prefixes.{BeginsWithOther}

-- all signs, longest first
abbrev pub signs : List Sign
signs = sign.StarTo ∷ sign.ToStar
    ∷ sign.StarQuestion ∷ sign.PlusQuestion ∷ sign.QuestionQuestion ∷ sign.EqualQuestion ∷ sign.To
    ∷ sign.Arrow ∷ sign.ColonColon ∷ sign.Becomes
    ∷ sign.Dots ∷ sign.NotEqual ∷ sign.LessEqual ∷ sign.GreaterEqual ∷ sign.AndAnd ∷ sign.OrOr
    ∷ sign.Semicolons ∷ sign.SlashAt
    ∷ sign.OpenParenthesis ∷ sign.CloseParenthesis ∷ sign.OpenBracket ∷ sign.CloseBracket
    ∷ sign.OpenBrace ∷ sign.CloseBrace
    ∷ sign.Less ∷ sign.Greater ∷ sign.Equal ∷ sign.Question ∷ sign.Star ∷ sign.Plus ∷ sign.Minus
    ∷ sign.Backslash
    ∷ sign.Or ∷ sign.And ∷ sign.Comma ∷ sign.Semicolon ∷ sign.Dot ∷ sign.Slash ∷ sign.Splice
    ∷ sign.At ∷ []

-- whether the text begins with the sign
abbrev pub begins_with : List ℕ → Sign → Bool
begins_with text is = starts_with eqb text (characters is)

-- the first of the signs that the text begins with
unfoldable pub first_sign : List ℕ → Option Sign
first_sign text = find (begins_with text) signs

-- the longer sign where this character goes on, which is taken off, and else the shorter one
abbrev pub IsEither : (next : ℕ) (long short : Sign) → List ℕ → Sign → (new : List ℕ) → Type 0
IsEither next long short text is new = ((is ≡ long) × (text ≡ next ∷ new))
    ⊎ ((is ≡ short) × (new ≡ text) × BeginsWithOther next text)
