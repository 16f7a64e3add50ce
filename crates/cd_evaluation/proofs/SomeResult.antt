-- Each run has a result, with any number of units, where each pattern takes a value or fails.
use Rattle.std.proofs.Common.{ℕ, zero, suc, refl}
use Rattle.cd_model.specs.Thing as thing
use Rattle.cd_model.specs.Thing.{Thing}
use Rattle.cd_evaluation.specs.Runs.{Result, Run, Spent, Stuck, ticked}
use Rattle.cd_evaluation.specs.Code.{Code, TakesOrFails}
use Rattle.cd_evaluation.specs.Meaning.{calls, Meaning}
use Rattle.cd_evaluation.proofs.RelatedRuns.{IsCongruence, of_enter}

-- nothing is asked of the second run
record HasResult (run other : Run) : Type 0 where
  result : (units : ℕ) → (result : Result) × run units result

module _ (code : Code) (takes : TakesOrFails code) where
  kept : IsCongruence code HasResult
  kept = record {
    of_end = λ outcome. record { result = λ units. (record { outcome = outcome; left = units }, refl) };
    of_two = λ one other next next' first later. record {
      result = λ units.
          let begun = first.result units in
          let ended = (later begun.0.outcome).result begun.0.left in
          (ended.0, (begun.0, begun.1, ended.1));
    };
    of_tick = λ one other first. record { result = tick one other first };
    of_answer = λ pattern v next next' later. record {
      result = λ units.
          let answer = takes pattern v in
          let ended = (later answer.0).result units in
          (ended.0, (answer.0, answer.1, ended.1));
    };
  }
    where
      tick : (one other : Run) → HasResult one other → (units : ℕ) → (result : Result) × ticked one units result
      tick one other first zero = (record { outcome = Spent; left = zero }, refl)
      tick one other first (suc units) = first.result units

  called : (depth : ℕ) (self v : Thing) → HasResult (calls code depth self v) (calls code depth self v)
  called zero self v = kept.of_end Spent
  called (suc depth) (thing.Closure at env) v = of_enter code HasResult kept (calls code depth) (calls code depth)
      (λ self v. kept.of_tick (calls code depth self v) (calls code depth self v) (called depth self v))
      (code.function at) (thing.Closure at env) env v
  called (suc depth) _ v = kept.of_end Stuck

  pub some_meaning : (main document : Thing) (units : ℕ) → (result : Result) × Meaning code main document units result
  some_meaning main document units = (kept.of_tick _ _ (called units main document)).result units
