-- What stands after an opening quote.
use Rattle.std.specs.Prelude.{◌≡◌, ℕ, List, ◌∷◌, ◌++◌}
use Rattle.cd_syntax.specs.Quotes.{Quotes, BeginsNoEscape, EndsHalf}
use Rattle.cd_lex.specs.declared.quoted.Quoted.{Quoted}
use Rattle.cd_lex.specs.declared.quoted.Quoted.TheVariants.{Closed, Breaks, Ends}

-- what stands before this rest means these characters
pub record Means (quote : ℕ) (text characters rest : List ℕ) : Type 0 where
  pub written : List ℕ
  pub is : text ≡ written ++ rest
  pub quotes : Quotes quote written characters

-- the closing quote stands after them
abbrev pub IsClosed : (quote : ℕ) (text characters new : List ℕ) → Type 0
IsClosed quote text characters new = Means quote text characters (quote ∷ new)

-- then comes a `\` that begins no escape
pub record IsBroken (quote : ℕ) (text new : List ℕ) : Type 0 where
  pub characters : List ℕ
  pub means : Means quote text characters new
  pub breaks : BeginsNoEscape new

-- the text ends before a closing quote
pub record IsOpen (quote : ℕ) (text : List ℕ) : Type 0 where
  pub characters : List ℕ
  pub rest : List ℕ
  pub means : Means quote text characters rest
  pub ends : EndsHalf rest

abbrev pub IsQuoted : ℕ → List ℕ → Quoted → (new characters : List ℕ) → Type 0
IsQuoted quote text Closed new characters = IsClosed quote text characters new
IsQuoted quote text Breaks new characters = IsBroken quote text new
IsQuoted quote text Ends new characters = IsOpen quote text
