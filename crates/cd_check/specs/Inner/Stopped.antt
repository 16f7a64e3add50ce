-- What is reported of operands that an operator refuses, where these stand at such places.
use Rattle.std.specs.Prelude.{ℕ}
use Rattle.cd_operators.specs.declared.misfit.Side.{Side}
use Rattle.cd_operators.specs.declared.misfit.Side.TheVariants.{First, Second}
use Rattle.cd_operators.specs.declared.misfit.Stop.{Stop}
use Rattle.cd_operators.specs.declared.misfit.Stop.TheVariants as stop
use Rattle.cd_check.specs.declared.fault.CheckError.{CheckError}
use Rattle.cd_check.specs.declared.fault.CheckError.TheVariants.{IllTyped, Memory}

abbrev pub place_at : Side → (first second : ℕ) → ℕ
place_at First first second = first
place_at Second first second = second

abbrev pub placed_at : Stop → (first second : ℕ) → CheckError
placed_at (stop.Misfit misfit) first second = IllTyped (record {
  at = place_at misfit.side first second;
  rule = misfit.rule;
  element = misfit.element;
})
placed_at stop.Memory first second = Memory
