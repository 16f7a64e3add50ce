-- Intervals of characters, and the numbers of the characters.
use Rattle.std.specs.Prelude.{◌≡◌, ℕ, ◌+◌, ◌-◌, ℤ, pos, negsuc, ◌≤ℤ◌, Bool, false, cond, ◌&&◌, List}
use Rattle.std.specs.Prelude.{nat_lt, nat_le}
use Rattle.std.specs.Char.{IsScalar}
use Rattle.std.specs.List.{list_any}
use Rattle.cd_sets.specs.declared.interval.Interval.{Interval}
use Rattle.cd_sets.specs.Rises.{Rises}

-- the characters from a low one to a high one, both among them
pub record CharInterval : Type 0 where
  pub low : ℕ
  pub high : ℕ

-- the character is from the one bound to the other
abbrev pub is_among : ℕ → ℕ → ℕ → Bool
is_among low high c = nat_le low c && nat_le c high

-- one of the intervals holds the character
abbrev pub holds_character : List CharInterval → ℕ → Bool
holds_character intervals c = list_any (λ interval. is_among interval.low interval.high c) intervals

-- none of the intervals holds a character
abbrev pub HoldsNoCharacter : List CharInterval → Type 0
HoldsNoCharacter intervals = (c : ℕ) → IsScalar c → holds_character intervals c ≡ false

-- both bounds of an interval of characters
abbrev pub bounding_characters : CharInterval → ℕ × ℕ
bounding_characters interval = (interval.low, interval.high)

-- the number of a character, counted from 0 with no number left out
abbrev pub number_of : ℕ → ℤ
number_of c = pos (cond (nat_lt c 0xD800) c (c - 0x800))

-- the character with a number
abbrev pub character_at : ℤ → ℕ
character_at (pos n) = cond (nat_lt n 0xD800) n (n + 0x800)
character_at (negsuc n) = 0

-- the characters whose numbers the interval holds
abbrev pub characters_of : Interval → CharInterval
characters_of interval = record {
  low = character_at interval.low;
  high = character_at interval.high;
}

-- the interval holds a number, and none but those of characters
abbrev pub IsOfCharacters : Interval → Type 0
IsOfCharacters interval = (pos 0 ≤ℤ interval.low) × (interval.low ≤ℤ interval.high)
    × (interval.high ≤ℤ pos 0x10F7FF)

-- the intervals rise, and hold no number but those of characters
abbrev pub AreOfCharacters : List Interval → Type 0
AreOfCharacters intervals = Rises (pos 0) intervals (pos 0x10F801)
