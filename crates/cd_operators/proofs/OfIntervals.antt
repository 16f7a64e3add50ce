-- Results for integers of two intervals.
use Rattle.std.proofs.Common.{◌≡◌, ℤ, ◌+ℤ◌, ◌-ℤ◌, ◌≤ℤ◌, ◌<ℤ◌, ◌⊎◌, inl, inr, true}
use Rattle.std.proofs.Common.{arith}
use Rattle.std.proofs.lemmas.Int.{ints}
use Rattle.cd_sets.specs.Interval.{is_between}
use Rattle.cd_operators.specs.declared.operation.Operation.{Operation}
use Rattle.cd_operators.specs.declared.operation.Operation.TheVariants.{Sum, Difference}
use Rattle.cd_operators.specs.Inner.Bounds.{compute, lowest, highest}

-- from the one bound to the other
pub between_is : (low high z : ℤ) → is_between low high z ≡ true → (low ≤ℤ z) × (z ≤ℤ high)
between_is low high z is = grind (arith, ints)

pub is_in : (low high z : ℤ) → low ≤ℤ z → z ≤ℤ high → is_between low high z ≡ true
is_in low high z above below = grind (arith, ints)

-- a result for integers of two intervals
abbrev pub IsOfIntervals : Operation → (first second : ℤ × ℤ) → ℤ → Type 0
IsOfIntervals operation first second z = (a b : ℤ) × (first.0 ≤ℤ a) × (a ≤ℤ first.1)
    × (second.0 ≤ℤ b) × (b ≤ℤ second.1) × (compute operation a b ≡ z)

at_most_or_more : (one other : ℤ) → (one ≤ℤ other) ⊎ (other <ℤ one)
at_most_or_more one other = grind (arith, ints)

-- each integer between the least and the greatest result is one
pub result_between : (operation : Operation) (first second : ℤ × ℤ) (z : ℤ)
    → first.0 ≤ℤ first.1 → second.0 ≤ℤ second.1
    → IsOfIntervals operation first second z
    → (lowest operation first second ≤ℤ z) × (z ≤ℤ highest operation first second)
result_between Sum first second z some other (a, b, least, most, from, to, same) =
    (omega (arith, ints), omega (arith, ints))
result_between Difference first second z some other (a, b, least, most, from, to, same) =
    (omega (arith, ints), omega (arith, ints))

pub between_is_result : (operation : Operation) (first second : ℤ × ℤ) (z : ℤ)
    → first.0 ≤ℤ first.1 → second.0 ≤ℤ second.1
    → lowest operation first second ≤ℤ z → z ≤ℤ highest operation first second
    → IsOfIntervals operation first second z
between_is_result Sum first second z some other low high =
    elim (at_most_or_more z (first.0 +ℤ second.1)) [
      | inl least ↦ (
        first.0,
        z -ℤ first.0,
        omega (arith, ints),
        some,
        omega (arith, ints),
        omega (arith, ints),
        omega (arith, ints),
      )
      | inr more ↦ (
        z -ℤ second.1,
        second.1,
        omega (arith, ints),
        omega (arith, ints),
        other,
        omega (arith, ints),
        omega (arith, ints),
      )
    ]
between_is_result Difference first second z some other low high =
    elim (at_most_or_more z (first.0 -ℤ second.0)) [
      | inl least ↦ (
        first.0,
        first.0 -ℤ z,
        omega (arith, ints),
        some,
        omega (arith, ints),
        omega (arith, ints),
        omega (arith, ints),
      )
      | inr more ↦ (
        z +ℤ second.0,
        second.0,
        omega (arith, ints),
        omega (arith, ints),
        omega (arith, ints),
        other,
        omega (arith, ints),
      )
    ]
