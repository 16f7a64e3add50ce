-- The meaning of programs: applications, one in the other.
use Rattle.std.specs.Prelude.{ℕ, zero, suc, Option, Some, None}
use Rattle.cd_model.specs.Thing.{Thing, Closure}
use Rattle.cd_program.specs.Expr.{FunctionTree, function}
use Rattle.cd_evaluation.specs.Runs.{Spent, Stuck, Result, Run, ends, ticked}
use Rattle.cd_evaluation.specs.Environment.{Env, with_name}
use Rattle.cd_evaluation.specs.Code.{Code}
use Rattle.cd_evaluation.specs.Evaluation.{chosen}

-- The branches of a function take an argument. They see the function's own name, and what it saw
-- where it was written
abbrev pub enter : Code → (call : Thing → Thing → Run) → Option FunctionTree → (self : Thing) → Env
    → Thing → Run
enter code call None self env v = ends Stuck
enter code call (Some (function at name name_at interface branches)) self env v =
    chosen code call branches (with_name name self env) v Stuck

-- Applications to at most this depth. Each has taken a unit, so a depth above the units that are
-- left is never reached
abbrev pub calls : Code → (depth : ℕ) → Thing → Thing → Run
calls code zero self v = ends Spent
calls code (suc depth) (Closure at env) v =
    enter code (calls code depth) (code.function at) (Closure at env) env v
calls code (suc depth) self v = ends Stuck

-- the results of `main`, applied to a document with so many units
abbrev pub Meaning : Code → (main document : Thing) → (units : ℕ) → Result → Type 0
Meaning code main document units result =
    ticked (calls code units main document) units result
