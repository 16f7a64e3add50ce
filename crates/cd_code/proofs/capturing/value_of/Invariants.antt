use Rattle.std.proofs.Common.{◌≡◌, ◌<◌, ℕ, List, drop}
use Rattle.cd_model.specs.AllOf.{AllOf}
use Rattle.cd_model.specs.Thing.{Thing}
use Rattle.cd_taking.specs.Taken.{captured}
use Rattle.cd_code.proofs.capturing.value_of.Given as goal

-- those before are of other variables
abbrev pub invariant-loop-capture : goal.invariant-loop-capture
invariant-loop-capture l =
    ((table : List Thing) → captured table (drop l.capture-index l.captures) l.variable
    ≡ captured table l.fn.captures l.variable)
    × ((bound : ℕ) → AllOf (λ capture. capture.value.0 < bound) l.fn.captures
    → AllOf (λ capture. capture.value.0 < bound) (drop l.capture-index l.captures))
