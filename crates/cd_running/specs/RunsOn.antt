-- What is found of a program on a value.
use Rattle.std.specs.Prelude.{ℕ, Option, Some, None}
use Rattle.cd_model.specs.Thing.{Thing}
use Rattle.cd_program.specs.Expr.{FunctionTree, Program}
use Rattle.cd_evaluation.specs.Runs.{Result}
use Rattle.cd_safety.specs.SafeProgram.{IsMain, ComesTo}
use Rattle.cd_running.specs.Input.{IsInput, IsNoInput, IsSafeOn}

-- `main` takes the value, each run on it is safe, and one with so many units comes to the result
pub record IsRun (program : Program) (main : FunctionTree) (v : Thing) (units : ℕ) (result : Result)
    : Type 0 where
  pub input : IsInput program main v
  pub safe : IsSafeOn program main v
  pub comes : ComesTo program main v units result

-- what is found of a program on a value, with so many units: that it does not take it, or what a
-- run comes to, and that each run on it is safe
abbrev pub RunsOn : Program → Thing → (units : ℕ) → Option Result → Type 0
RunsOn program v units None = (main : FunctionTree) → IsMain program main → IsNoInput program main v
RunsOn program v units (Some result) = (main : FunctionTree) → IsMain program main
    → IsRun program main v units result
