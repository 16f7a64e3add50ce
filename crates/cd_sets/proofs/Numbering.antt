-- Characters and their numbers: the one order is the other, and each goes back to what it came from.
use Rattle.std.proofs.Common.{◌≡◌, ℕ, zero, suc, ◌+◌, ◌-◌, ℤ, pos, negsuc, ◌+ℤ◌, ◌≤ℤ◌, ◌<ℤ◌, true, false, cond, List, [], ◌∷◌, map, nat_lt, nat_le, refl, sym, ◌∙◌, inl, inr, ◌⊎◌, Some, arith, true≢false}
use Rattle.std.proofs.lemmas.Bool.Decides.{nat_tests}
use Rattle.std.specs.Char.{IsScalar, InScalarRange}
use Rattle.std.specs.Prelude.{slice_get}
use Rattle.std.proofs.lemmas.Int.{ints, by_lt_z}
use Rattle.std.proofs.lemmas.Option.{none-some, same_Some}
use Rattle.cd_sets.specs.declared.interval.Interval.{Interval}
use Rattle.cd_sets.specs.declared.combine.Operation.{Operation}
use Rattle.cd_sets.specs.Interval.{is_between, holds}
use Rattle.cd_syntax.specs.Integer.{LEAST, GREATEST}
use Rattle.cd_sets.specs.Rises.{Rises, IsRising}
use Rattle.cd_sets.specs.Inner.Combine.{keeps_of}
use Rattle.cd_sets.specs.Characters.{is_among, holds_character, number_of, character_at, characters_of, IsOfCharacters, AreOfCharacters}
use Rattle.cd_sets.proofs.Rising.{rises_later, rises_bounds, holds_before, holds_after}
use Rattle.cd_sets.proofs.Sweep.{keeps_neither}

-- what a scalar value is, by ranges
pub scalar_range : (c : ℕ) → IsScalar c → InScalarRange c
scalar_range c h = grind (arith, nat_tests)

-- a low bound is the same for the character and for its number
pub low_same : (n c : ℕ) → IsScalar c → nat_le (cond (nat_lt n 0xD800) n (n + 0x800)) c ≡ nat_le n (cond (nat_lt c 0xD800) c (c - 0x800))
low_same n c h = let range = scalar_range c h in grind (arith, nat_tests)

-- and so is a high bound
pub high_same : (n c : ℕ) → IsScalar c → nat_le c (cond (nat_lt n 0xD800) n (n + 0x800)) ≡ nat_le (cond (nat_lt c 0xD800) c (c - 0x800)) n
high_same n c h = let range = scalar_range c h in grind (arith, nat_tests)

-- an interval of numbers and that of their characters hold the same
same_member : (low high : ℤ) (c : ℕ) → pos 0 ≤ℤ low → pos 0 ≤ℤ high → IsScalar c → is_among (character_at low) (character_at high) c ≡ is_between low high (number_of c)
same_member (pos m) (pos n) c low high scalar =
    let a = low_same m c scalar in
    let b = high_same n c scalar in
    grind (arith, ints, a, b)
same_member (negsuc m) high c low _ scalar = absurd (omega (arith, ints))
same_member (pos m) (negsuc n) c low high scalar = absurd (omega (arith, ints))

-- and so do lists of intervals
same_from : (from : ℤ) (xs : List Interval) (to : ℤ) (c : ℕ) → pos 0 ≤ℤ from → Rises from xs to → IsScalar c → holds_character (map characters_of xs) c ≡ holds xs (number_of c)
same_from from [] to c least rises scalar = refl
same_from from (x ∷ xs) to c least rises scalar =
    let low : from ≤ℤ x.low = rises.0 in
    let high : x.low ≤ℤ x.high = rises.1 in
    let first = same_member x.low x.high c (omega (arith, ints)) (omega (arith, ints)) scalar in
    let rest = same_from (x.high +ℤ pos 2) xs to c (omega (arith, ints)) rises.2 scalar in
    cc

pub same_members : (xs : List Interval) (c : ℕ) → AreOfCharacters xs → IsScalar c → holds_character (map characters_of xs) c ≡ holds xs (number_of c)
same_members xs c are scalar = same_from (pos 0) xs (pos 0x10F801) c (omega (arith, ints)) are scalar

-- intervals may be said to begin earlier
pub rises_earlier : (earlier from : ℤ) (xs : List Interval) (to : ℤ) → earlier ≤ℤ from → Rises from xs to → Rises earlier xs to
rises_earlier earlier from [] to le rises = omega (arith, ints)
rises_earlier earlier from (x ∷ xs) to le rises =
    let low : from ≤ℤ x.low = rises.0 in
    (omega (arith, ints), rises.1, rises.2)

-- numbers of characters are numbers of 128 bits
pub rising_numbers : (xs : List Interval) → AreOfCharacters xs → IsRising xs
rising_numbers xs are = rises_earlier LEAST (pos 0) xs (GREATEST +ℤ pos 2) (omega (arith, ints)) (rises_later (pos 0) xs (pos 0x10F801) (GREATEST +ℤ pos 2) are (omega (arith, ints)))

-- both bounds of an interval are numbers of characters
piece_from : (from : ℤ) (xs : List Interval) (to : ℤ) (index : ℕ) (x : Interval) → Rises from xs to → slice_get xs index ≡ Some x
    → (from ≤ℤ x.low) × (x.low ≤ℤ x.high) × ((x.high +ℤ pos 2) ≤ℤ to)
piece_from from [] to index x rises is = absurd (none-some _ is)
piece_from from (y ∷ ys) to zero x rises is =
    let same : y ≡ x = same_Some _ _ is in
    let end = rises_bounds (y.high +ℤ pos 2) ys to rises.2 in
    rw (← same) (rises.0, rises.1, end)
piece_from from (y ∷ ys) to (suc index) x rises is =
    let low : from ≤ℤ y.low = rises.0 in
    let high : y.low ≤ℤ y.high = rises.1 in
    let rest = piece_from (y.high +ℤ pos 2) ys to index x rises.2 is in
    let later : (y.high +ℤ pos 2) ≤ℤ x.low = rest.0 in
    (omega (arith, ints), rest.1, rest.2)

pub piece_within : (xs : List Interval) (index : ℕ) (x : Interval) → AreOfCharacters xs → slice_get xs index ≡ Some x → IsOfCharacters x
piece_within xs index x are is =
    let within = piece_from (pos 0) xs (pos 0x10F801) index x are is in
    let end : (x.high +ℤ pos 2) ≤ℤ pos 0x10F801 = within.2 in
    (within.0, within.1, omega (arith, ints))

-- an interval holds its bounds
holds_low : (x : Interval) (xs : List Interval) → x.low ≤ℤ x.high → holds (x ∷ xs) x.low ≡ true
holds_low x xs le = grind (arith, ints)

holds_high : (x : Interval) (xs : List Interval) → x.low ≤ℤ x.high → holds (x ∷ xs) x.high ≡ true
holds_high x xs le = grind (arith, ints)

-- intervals that hold nothing above a number end there
ends_within : (from : ℤ) (xs : List Interval) (to greatest : ℤ) → Rises from xs to → from ≤ℤ (greatest +ℤ pos 2)
    → ((z : ℤ) → holds xs z ≡ true → z ≤ℤ greatest)
    → Rises from xs (greatest +ℤ pos 2)
ends_within from [] to greatest rises le within = le
ends_within from (x ∷ xs) to greatest rises le within =
    let end : x.high ≤ℤ greatest = within x.high (holds_high x xs rises.1) in
    (rises.0, rises.1, ends_within (x.high +ℤ pos 2) xs to greatest rises.2 (omega (arith, ints)) (λ z h. within z (grind (arith, h))))

-- intervals that hold nothing below a number begin there
begins_within : (from : ℤ) (xs : List Interval) (to least : ℤ) → Rises from xs to → least ≤ℤ to → ((z : ℤ) → holds xs z ≡ true → least ≤ℤ z) → Rises least xs to
begins_within from [] to least rises le within = le
begins_within from (x ∷ xs) to least rises le within = (within x.low (holds_low x xs rises.1), rises.1, rises.2)

-- numbers of characters are within their bounds
member_within : (xs : List Interval) (z : ℤ) → AreOfCharacters xs → (z <ℤ pos 0) ⊎ (pos 0x10F7FF <ℤ z) → holds xs z ≡ false
member_within xs z are (inl below) = holds_before (pos 0) xs (pos 0x10F801) z are below
member_within xs z are (inr above) = holds_after (pos 0) xs (pos 0x10F801) z are (omega (arith, ints))

-- what an operation keeps of numbers of characters are such numbers
pub kept_of_characters : (operation : Operation) (kept left right : List Interval) → IsRising kept
    → ((z : ℤ) → holds kept z ≡ keeps_of operation (holds left z) (holds right z))
    → AreOfCharacters left → AreOfCharacters right → AreOfCharacters kept
kept_of_characters operation kept left right rising exact left_are right_are =
    begins_within LEAST kept (pos 0x10F801) (pos 0)
    (ends_within LEAST kept (GREATEST +ℤ pos 2) (pos 0x10F7FF) rising (omega (arith, ints)) above)
    (omega (arith, ints)) below
  where
    none : (z : ℤ) → (z <ℤ pos 0) ⊎ (pos 0x10F7FF <ℤ z) → holds kept z ≡ false
    none z out = exact z ∙ rw (member_within left z left_are out, member_within right z right_are out) (keeps_neither operation)

    above : (z : ℤ) → holds kept z ≡ true → z ≤ℤ pos 0x10F7FF
    above z h = by_lt_z (pos 0x10F7FF) z (λ out. absurd (true≢false (sym h ∙ none z (inr out)))) (λ within. within)

    below : (z : ℤ) → holds kept z ≡ true → pos 0 ≤ℤ z
    below z h = by_lt_z z (pos 0) (λ out. absurd (true≢false (sym h ∙ none z (inl out)))) (λ within. within)

-- what an operation keeps is known by the characters
pub kept_characters : (operation : Operation) (kept left right : List Interval) (c : ℕ) → AreOfCharacters kept
    → ((z : ℤ) → holds kept z ≡ keeps_of operation (holds left z) (holds right z))
    → AreOfCharacters left → AreOfCharacters right → IsScalar c
    → holds_character (map characters_of kept) c ≡ keeps_of operation (holds_character (map characters_of left) c) (holds_character (map characters_of right) c)
kept_characters operation kept left right c are exact left_are right_are scalar =
    rw (same_members kept c are scalar, same_members left c left_are scalar, same_members right c right_are scalar) (exact (number_of c))
