-- Integers that texts spell.
use Rattle.std.specs.Prelude.{◌≡◌, ◌<◌, ◌^◌, ℕ, pos, Bool, false, List, [], ◌∷◌, Option, Some, None}
use Rattle.std.specs.Prelude.{if◌then◌else◌}
use Rattle.std.specs.Char.{is_ascii_digit}
use Rattle.std.specs.List.{list_all}
use Rattle.cd_model.specs.Thing.{Thing, Character}
use Rattle.cd_evaluation.specs.Integers.{digits_value}
use Rattle.cd_evaluation.specs.Lists.{characters_of}

-- one digit or more
abbrev pub are_digits : List ℕ → Bool
are_digits [] = false
are_digits (c ∷ text) = list_all is_ascii_digit (c ∷ text)

-- the number that digits write, and None of other texts and of numbers that are too wide
abbrev pub IsMagnitude : List ℕ → Option ℕ → Type 0
IsMagnitude text (Some m) = digits_value text ≡ Some (pos m)
IsMagnitude text None = (n : ℕ) → digits_value text ≡ Some (pos n) → 2 ^ 127 < n

abbrev pub character_of : Thing → Option ℕ
character_of (Character c) = Some c
character_of _ = None

-- these are the characters of a text, or it is none
abbrev pub AreCharacters : Thing → (text : List ℕ) → Bool → Type 0
AreCharacters v text is = characters_of v ≡ (if is then Some text else None)
