-- The signs, and which of them stands at the start of a text.
use Rattle.std.specs.Prelude.{◌≡◌, ℕ, ◌≤◌, Bool, true, false, List, ◌++◌, length, codes}
use Rattle.cd_syntax.specs.declared.sign.Sign.{Sign}
use Rattle.cd_syntax.specs.declared.sign.Sign.TheVariants as sign

abbrev pub characters : Sign → List ℕ
characters sign.StarTo = codes "*--"
characters sign.ToStar = codes "--*"
characters sign.StarQuestion = codes "*?"
characters sign.PlusQuestion = codes "+?"
characters sign.QuestionQuestion = codes "??"
characters sign.EqualQuestion = codes "=?"
characters sign.To = codes "--"
characters sign.Arrow = codes "->"
characters sign.ColonColon = codes "::"
characters sign.Becomes = codes ":="
characters sign.Dots = codes ".."
characters sign.NotEqual = codes "!="
characters sign.LessEqual = codes "<="
characters sign.GreaterEqual = codes ">="
characters sign.AndAnd = codes "&&"
characters sign.OrOr = codes "||"
characters sign.Semicolons = codes ";;"
characters sign.SlashAt = codes "/@"
characters sign.OpenParenthesis = codes "("
characters sign.CloseParenthesis = codes ")"
characters sign.OpenBracket = codes "["
characters sign.CloseBracket = codes "]"
characters sign.OpenBrace = codes "{"
characters sign.CloseBrace = codes "}"
characters sign.Less = codes "<"
characters sign.Greater = codes ">"
characters sign.Equal = codes "="
characters sign.Question = codes "?"
characters sign.Star = codes "*"
characters sign.Plus = codes "+"
characters sign.Minus = codes "-"
characters sign.Backslash = codes "\\"
characters sign.Or = codes "|"
characters sign.And = codes "&"
characters sign.Comma = codes ","
characters sign.Semicolon = codes ";"
characters sign.Dot = codes "."
characters sign.Slash = codes "/"
characters sign.Splice = codes "!"
characters sign.At = codes "@"

-- the text begins with the sign
abbrev pub BeginsWith : List ℕ → Sign → Type 0
BeginsWith text is = (rest : List ℕ) × (text ≡ characters is ++ rest)

-- the sign is the longest of those that the text begins with
pub record IsLongest (is : Sign) (text : List ℕ) : Type 0 where
  pub stands : BeginsWith text is
  pub longest : (other : Sign) → BeginsWith text other
      → length (characters other) ≤ length (characters is)

-- `)`, `]` or `}`: a `-` right after it is no sign of a number
abbrev pub closes : Sign → Bool
closes sign.CloseParenthesis = true
closes sign.CloseBracket = true
closes sign.CloseBrace = true
closes _ = false
