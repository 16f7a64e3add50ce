-- Safe runs: each result of a run is fine, and is one of the run within what is kept.
use Rattle.std.specs.Prelude.{ℕ}
use Rattle.cd_model.specs.Interfaces.{Interfaces}
use Rattle.cd_model.specs.Thing.{Thing, Fields}
use Rattle.cd_evaluation.specs.Runs.{Result, Run}
use Rattle.cd_safety.specs.Sound.{IsFine}
use Rattle.cd_safety.specs.Ways.{Way, Freely, Within}

pub record IsSafe (fact : ℕ → Fields → Type 0) (interfaces : Interfaces) (wanted : Thing → Type 0)
    (run : Way → Run) : Type 0 where
  pub fine : (units : ℕ) (result : Result) → run Freely units result
      → IsFine fact interfaces wanted result.outcome
  pub within : (units : ℕ) (result : Result) → run Freely units result → run Within units result
