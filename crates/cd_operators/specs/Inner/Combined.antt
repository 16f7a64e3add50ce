-- Sets of the results, within 128 bits, for integers of two sets.
use Rattle.std.specs.Prelude.{◌≡◌, ◌↔◌, ◌≤ℤ◌, ℤ, true, List}
use Rattle.cd_sets.specs.declared.interval.Interval.{Interval}
use Rattle.cd_sets.specs.Interval.{holds}
use Rattle.cd_syntax.specs.Integer.{LEAST, GREATEST, IsInteger}
use Rattle.cd_operators.specs.declared.operation.Operation.{Operation}
use Rattle.cd_operators.specs.Inner.Bounds.{compute}

-- bounds of an interval of integers, and the interval
pub record IsPiece (bounds : ℤ × ℤ) : Type 0 where
  pub least : LEAST ≤ℤ bounds.0
  pub rises : bounds.0 ≤ℤ bounds.1
  pub greatest : bounds.1 ≤ℤ GREATEST

abbrev pub interval : ℤ × ℤ → Interval
interval bounds = record { low = bounds.0; high = bounds.1 }

abbrev pub IsOfTwo : Operation → (first second : List Interval) → ℤ → Type 0
IsOfTwo operation first second z = (a b : ℤ) × IsInteger a × IsInteger b
    × (holds first a ≡ true) × (holds second b ≡ true) × (compute operation a b ≡ z)

abbrev pub AreOfTwo : Operation → (first second set : List Interval) → Type 0
AreOfTwo operation first second set = (z : ℤ) → IsInteger z
    → (holds set z ≡ true) ↔ IsOfTwo operation first second z
