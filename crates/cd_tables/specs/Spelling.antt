-- Spellings in fields of 16 bytes, and when they rise.
use Rattle.std.specs.Prelude.{ℕ, zero, suc, nat_lt, ◌==◌, Bool, true, ◌&&◌, List, [], ◌∷◌}
use Rattle.std.specs.Prelude.{Option, Some, None, length, drop}
use Rattle.std.specs.List.{list_all}
use Rattle.std.specs.Ordering.{nat_cmp, is_lt}
use Rattle.std.specs.Cmp.Lexicographic.{slice_cmp}

-- what a field spells: its bytes before the first 0
abbrev pub spelled : List ℕ → List ℕ
spelled [] = []
spelled (zero ∷ bytes) = []
spelled (suc n ∷ bytes) = suc n ∷ spelled bytes

-- a field spells one byte at least, and after what it spells stand zeros alone
abbrev pub is_spelling : List ℕ → Bool
is_spelling field = nat_lt 0 (length (spelled field))
    && list_all (λ byte. byte == 0) (drop (length (spelled field)) field)

-- what a field spells is above what the one before it spells, if there is one
abbrev pub is_above : Option (List ℕ) → List ℕ → Bool
is_above None field = true
is_above (Some before) field = is_lt (slice_cmp nat_cmp (spelled before) (spelled field))

-- each field has a spelling, and each is above the one before it
abbrev pub rises_after : Option (List ℕ) → List (List ℕ) → Bool
rises_after before [] = true
rises_after before (field ∷ fields) =
    is_spelling field && is_above before field && rises_after (Some field) fields

-- fields that have spellings, which rise strictly
abbrev pub rises : List (List ℕ) → Bool
rises fields = rises_after None fields
