-- Results of integers, which may be below or above all integers of 128 bits.
use Rattle.std.specs.Prelude.{◌≡◌, ℤ, ◌+ℤ◌, ◌-ℤ◌, ◌<ℤ◌}
use Rattle.cd_syntax.specs.Integer.{LEAST, GREATEST}
use Rattle.cd_operators.specs.declared.bound.Bound.{Bound}
use Rattle.cd_operators.specs.declared.bound.Bound.TheVariants.{Below, At, Above}
use Rattle.cd_operators.specs.declared.operation.Operation.{Operation}
use Rattle.cd_operators.specs.declared.operation.Operation.TheVariants.{Sum, Difference}

abbrev pub IsBound : ℤ → Bound → Type 0
IsBound z Below = z <ℤ LEAST
IsBound z (At n) = n ≡ z
IsBound z Above = GREATEST <ℤ z

abbrev pub compute : Operation → ℤ → ℤ → ℤ
compute Sum a b = a +ℤ b
compute Difference a b = a -ℤ b

-- the least and the greatest result for integers between bounds
abbrev pub lowest : Operation → (first second : ℤ × ℤ) → ℤ
lowest Sum first second = first.0 +ℤ second.0
lowest Difference first second = first.0 -ℤ second.1

abbrev pub highest : Operation → (first second : ℤ × ℤ) → ℤ
highest Sum first second = first.1 +ℤ second.1
highest Difference first second = first.1 -ℤ second.0
