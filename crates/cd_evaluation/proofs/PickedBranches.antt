-- Where the first branch that takes a value is known, so is what the branches come to.
use Rattle.std.proofs.Common.{ℕ, Option, Some, None, ap, subst}
use Rattle.cd_model.specs.Thing.{Thing}
use Rattle.cd_program.specs.Expr.{Expr, Branches, NoBranch, ABranch}
use Rattle.cd_evaluation.specs.Runs.{Outcome, Result, Run, ends}
use Rattle.cd_evaluation.specs.Environment.{Env, with_all}
use Rattle.cd_evaluation.specs.Code.{Code}
use Rattle.cd_evaluation.specs.Evaluation.{picked, eval, chosen}
use Rattle.cd_evaluation.specs.Picks.{Picks, by_answer}

-- what an option holds
abbrev unwrap : Expr × Env → Option (Expr × Env) → Expr × Env
unwrap other None = other
unwrap other (Some found) = found

module _ (code : Code) (call : Thing → Thing → Run) where
  pub some_picked : (branches : Branches) (env : Env) (v : Thing) (otherwise : Outcome) (body : Expr) (captures : Env)
      → Picks code branches v (Some (body, captures)) → (units : ℕ) (result : Result)
      → eval code call body (with_all captures env) units result → chosen code call branches env v otherwise units result
  some_picked NoBranch env v otherwise body captures picks units result h = cc
  some_picked (ABranch pattern other rest) env v otherwise body captures picks units result h =
      (picks.0, picks.1, by_cases picks.0 picks.2 (some_picked rest env v otherwise body captures))
    where
      by_cases : (answer : Option Env) → by_answer answer other (Some (body, captures)) (Picks code rest v (Some (body, captures)))
          → (Picks code rest v (Some (body, captures)) → (units : ℕ) (result : Result) → eval code call body (with_all captures env) units result
          → chosen code call rest env v otherwise units result)
          → picked answer (λ own. eval code call other (with_all own env)) (chosen code call rest env v otherwise) units result
      by_cases None picks on = on picks units result h
      by_cases (Some own) same on = subst (λ (found : Expr × Env). eval code call found.0 (with_all found.1 env) units result) (ap (unwrap (body, captures)) same) h

  pub none_picked : (branches : Branches) (env : Env) (v : Thing) (otherwise : Outcome) → Picks code branches v None
      → (units : ℕ) (result : Result) → ends otherwise units result → chosen code call branches env v otherwise units result
  none_picked NoBranch env v otherwise picks units result h = h
  none_picked (ABranch pattern other rest) env v otherwise picks units result h =
      (picks.0, picks.1, by_cases picks.0 picks.2 (none_picked rest env v otherwise))
    where
      by_cases : (answer : Option Env) → by_answer answer other None (Picks code rest v None)
          → (Picks code rest v None → (units : ℕ) (result : Result) → ends otherwise units result
          → chosen code call rest env v otherwise units result)
          → picked answer (λ own. eval code call other (with_all own env)) (chosen code call rest env v otherwise) units result
      by_cases None picks on = on picks units result h
      by_cases (Some own) same on = cc
