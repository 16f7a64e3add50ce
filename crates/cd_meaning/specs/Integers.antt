-- Integers of 128 bits, and what is computed of them.
use Rattle.std.specs.Prelude.{◌≡◌, ℤ}
use Rattle.cd_syntax.specs.Integer.{IsInteger}
use Rattle.cd_model.specs.Thing.{Integer}
use Rattle.cd_meaning.specs.Sets.{Set}

-- a result, within 128 bits, of integers of the two sets
abbrev pub IsResultOf : (ℤ → ℤ → ℤ) → (first second : Set) → Set
IsResultOf compute first second d = (a b : ℤ) × IsInteger a × IsInteger b × first (Integer a)
    × second (Integer b) × IsInteger (compute a b) × (d ≡ Integer (compute a b))
