-- Applications to a greater depth than there are units change nothing, and no run ends with more units than it began with.
use Rattle.std.proofs.Common.{ℕ, zero, suc, ◌<◌, ◌≤◌, ap, arith}
use Rattle.cd_model.specs.Thing as thing
use Rattle.cd_model.specs.Thing.{Thing}
use Rattle.cd_program.specs.Expr.{Expr}
use Rattle.cd_evaluation.specs.Runs.{Result, Run, ticked}
use Rattle.cd_evaluation.specs.Environment.{Env}
use Rattle.cd_evaluation.specs.Code.{Code}
use Rattle.cd_evaluation.specs.Evaluation.{eval}
use Rattle.cd_evaluation.specs.Meaning.{calls}
use Rattle.cd_evaluation.proofs.RelatedRuns.{IsCongruence, of_eval, of_enter}

-- with at most so many units each result of the one is a result of the other, and no unit is won
pub record LeadsTo (most : ℕ) (one other : Run) : Type 0 where
  pub lead : (units : ℕ) (result : Result) → units ≤ most → one units result → other units result × (result.left ≤ units)

kept : (code : Code) (most : ℕ) → IsCongruence code (LeadsTo most)
kept code most = record {
  of_end = λ outcome. record { lead = λ units result below is. (is, let same = ap (λ (r : Result). r.left) is in omega (arith, same)) };
  of_two = λ one other next next' first later. record {
    lead = λ units result below is.
        let begun = first.lead units is.0 below is.1 in
        let less = begun.1 in
        let ended = (later is.0.outcome).lead is.0.left result (omega (arith, less, below)) is.2 in
        let fewer = ended.1 in
        ((is.0, begun.0, ended.0), omega (arith, less, fewer));
  };
  of_tick = λ one other first. record { lead = tick one other first };
  of_answer = λ pattern v next next' later. record {
    lead = λ units result below is.
        let ended = (later is.0).lead units result below is.2 in
        ((is.0, is.1, ended.0), ended.1);
  };
}
  where
    tick : (one other : Run) → LeadsTo most one other → (units : ℕ) (result : Result) → units ≤ most
        → ticked one units result → ticked other units result × (result.left ≤ units)
    tick one other first zero result below is = (is, let same = ap (λ (r : Result). r.left) is in omega (arith, same))
    tick one other first (suc units) result below is =
        let ended = first.lead units result (omega (arith, below)) is in
        let fewer = ended.1 in
        (ended.0, omega (arith, fewer))

module _ (code : Code) where
  -- an application takes a unit, so it is one with fewer units
  within : (most depth depth' : ℕ)
      → ((self v : Thing) (units : ℕ) (result : Result) → units < most → calls code depth self v units result
      → calls code depth' self v units result × (result.left ≤ units))
      → (self v : Thing) → LeadsTo most (ticked (calls code depth self v)) (ticked (calls code depth' self v))
  within most depth depth' on self v = record { lead = by_units }
    where
      by_units : (units : ℕ) (result : Result) → units ≤ most → ticked (calls code depth self v) units result
          → ticked (calls code depth' self v) units result × (result.left ≤ units)
      by_units zero result below h = (h, let same = ap (λ (r : Result). r.left) h in omega (arith, same))
      by_units (suc units) result below h =
          let ended = on self v units result (omega (arith, below)) h in
          let left = ended.1 in
          (ended.0, omega (arith, left))

  pub called : (depth depth' : ℕ) (self v : Thing) (units : ℕ) (result : Result) → units < depth → units < depth'
      → calls code depth self v units result → calls code depth' self v units result × (result.left ≤ units)
  called zero depth' self v units result less less' h = absurd (omega arith)
  called (suc depth) zero self v units result less less' h = absurd (omega arith)
  called (suc depth) (suc depth') (thing.Closure at env) v units result less less' h =
      (of_enter code (LeadsTo units) (kept code units) (calls code depth) (calls code depth')
      (within units depth depth' (λ self v fewer result below. called depth depth' self v fewer result
      (omega (arith, below, less)) (omega (arith, below, less'))))
      (code.function at) (thing.Closure at env) env v).lead units result (omega arith) h
  called (suc depth) (suc depth') _ v units result less less' h =
      (h, let same = ap (λ (r : Result). r.left) h in omega (arith, same))

  -- evaluation with at most so many units is the same, whatever the depths above it are
  pub evaluated : (depth depth' : ℕ) (e : Expr) (env : Env) (units : ℕ) (result : Result) → units ≤ depth → units ≤ depth'
      → eval code (calls code depth) e env units result → eval code (calls code depth') e env units result
  evaluated depth depth' e env units result below below' h =
      ((of_eval code (LeadsTo units) (kept code units) (calls code depth) (calls code depth')
      (within units depth depth' (λ self v fewer result less. called depth depth' self v fewer result
      (omega (arith, below, less)) (omega (arith, below', less)))) e env).lead units result (omega arith) h).0
