-- What stands after a `\`.
use Rattle.std.specs.Prelude.{◌≡◌, ℕ, List, [], ◌∷◌, ◌++◌, Option, MatchOption}
use Rattle.cd_syntax.specs.Quotes.{IsEscapeLetter, Quotes, BeginsNoEscape, EndsHalf}
use Rattle.cd_lex.specs.declared.quoted.Escape.{Escape}
use Rattle.cd_lex.specs.declared.quoted.Escape.TheVariants.{Means, Breaks, Ends}

-- the character that a letter after `\` stands for, and none where no escape has that letter
abbrev pub IsMeant : ℕ → Option ℕ → Type 0
IsMeant letter found = MatchOption found ((meant : ℕ) → IsEscapeLetter letter meant → ⊥)
    (λ meant. IsEscapeLetter letter meant)

-- what is taken off the text after a `\` means `c`
pub record IsEscapeOf (text : List ℕ) (c : ℕ) (new : List ℕ) : Type 0 where
  pub written : List ℕ
  pub is : text ≡ written ++ new
  pub quotes : (quote : ℕ) → Quotes quote (92 ∷ written) (c ∷ [])

-- an escape; or none begins so; or the text ends too early
abbrev pub IsEscape : List ℕ → Escape → (new : List ℕ) → Type 0
IsEscape text (Means c) new = IsEscapeOf text c new
IsEscape text Breaks new = BeginsNoEscape (92 ∷ text)
IsEscape text Ends new = EndsHalf (92 ∷ text)
