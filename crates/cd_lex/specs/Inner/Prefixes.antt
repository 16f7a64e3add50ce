-- What stands at the start of a text, and what is left after it.
use Rattle.std.specs.Prelude.{◌≡◌, ◌≢◌, ℕ, Bool, false, List, [], ◌∷◌, ◌++◌, length, drop}
use Rattle.std.specs.Prelude.{take_while, IsTrue}
use Rattle.std.specs.Char.{is_ascii_digit}
use Rattle.cd_syntax.specs.Name.{begins_word, goes_on_word, is_word}
use Rattle.cd_syntax.specs.Tokens.{is_blank, EndsWord}

-- this character does not stand first
abbrev pub BeginsWithOther : ℕ → List ℕ → Type 0
BeginsWithOther c [] = Unit {0}
BeginsWithOther c (d ∷ rest) = d ≢ c

-- no word and no blank stands first
abbrev pub BeginsWithNoWord : List ℕ → Type 0
BeginsWithNoWord [] = Unit {0}
BeginsWithNoWord (c ∷ cs) = begins_word c ≡ false

abbrev pub BeginsWithNoBlank : List ℕ → Type 0
BeginsWithNoBlank [] = Unit {0}
BeginsWithNoBlank (c ∷ cs) = is_blank c ≡ false

-- a word stands at the start, and this is left after it
pub record IsWordTo (text word new : List ℕ) : Type 0 where
  pub is : text ≡ word ++ new
  pub stands : IsTrue (is_word word)
  pub ends : EndsWord new

-- what is left after the characters at the start that pass
abbrev pub after : (ℕ → Bool) → List ℕ → List ℕ
after p text = drop (length (take_while p text)) text

-- the characters of a word that stand at the start, and what is left after them
abbrev pub first_word : List ℕ → List ℕ
first_word text = take_while goes_on_word text

abbrev pub after_word : List ℕ → List ℕ
after_word text = after goes_on_word text

-- the digits that stand at the start, and what is left after them
abbrev pub first_digits : List ℕ → List ℕ
first_digits text = take_while is_ascii_digit text

abbrev pub after_digits : List ℕ → List ℕ
after_digits text = after is_ascii_digit text
