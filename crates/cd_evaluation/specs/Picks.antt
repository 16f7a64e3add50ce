-- Which branch is the first to take a value, and with what captures: what code that tries patterns
-- is to answer.
use Rattle.std.specs.Prelude.{◌≡◌, Option, Some, None}
use Rattle.cd_model.specs.Thing.{Thing}
use Rattle.cd_program.specs.Expr.{Expr, Branches, NoBranch, ABranch}
use Rattle.cd_evaluation.specs.Environment.{Env}
use Rattle.cd_evaluation.specs.Code.{Code}

abbrev pub by_answer : Option Env → (body : Expr) → Option (Expr × Env) → (later : Type 0) → Type 0
by_answer None body choice later = later
by_answer (Some captures) body choice later = choice ≡ Some (body, captures)

-- the body of that branch, and None where no branch takes the value
abbrev pub Picks : Code → Branches → Thing → Option (Expr × Env) → Type 0
Picks code NoBranch v choice = choice ≡ None
Picks code (ABranch pattern body rest) v choice = (answer : Option Env)
    × code.take pattern v answer × by_answer answer body choice (Picks code rest v choice)
