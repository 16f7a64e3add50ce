-- So many units have at most one result, where a value has at most one answer of a pattern.
use Rattle.std.proofs.Common.{◌≡◌, ℕ, zero, suc, Option, sym, subst, ◌∙◌}
use Rattle.cd_model.specs.Thing as thing
use Rattle.cd_model.specs.Thing.{Thing}
use Rattle.cd_evaluation.specs.Runs.{Result, Run, Spent, Stuck, ticked}
use Rattle.cd_evaluation.specs.Environment.{Env}
use Rattle.cd_evaluation.specs.Code.{Code, TakesOnce}
use Rattle.cd_evaluation.specs.Meaning.{calls, Meaning}
use Rattle.cd_evaluation.proofs.RelatedRuns.{IsCongruence, of_enter}

-- two runs have the same result, if both have one
record AreOne (one other : Run) : Type 0 where
  same : (units : ℕ) (result result' : Result) → one units result → other units result' → result ≡ result'

module _ (code : Code) (once : TakesOnce code) where
  kept : IsCongruence code AreOne
  kept = record {
    of_end = λ outcome. record { same = λ units result result' is is'. is ∙ sym is' };
    of_two = λ one other next next' first later. record {
      same = λ units result result' is is'.
          (later is.0.outcome).same is.0.left result result' is.2
          (subst (λ (middle : Result). next' middle.outcome middle.left result') (sym (first.same units is.0 is'.0 is.1 is'.1)) is'.2);
    };
    of_tick = λ one other first. record { same = tick one other first };
    of_answer = λ pattern v next next' later. record {
      same = λ units result result' is is'.
          (later is.0).same units result result' is.2
          (subst (λ (answer : Option Env). next' answer units result') (sym (once pattern v is.0 is'.0 is.1 is'.1)) is'.2);
    };
  }
    where
      tick : (one other : Run) → AreOne one other → (units : ℕ) (result result' : Result)
          → ticked one units result → ticked other units result' → result ≡ result'
      tick one other first zero result result' is is' = is ∙ sym is'
      tick one other first (suc units) result result' is is' = first.same units result result' is is'

  called : (depth : ℕ) (self v : Thing) → AreOne (calls code depth self v) (calls code depth self v)
  called zero self v = kept.of_end Spent
  called (suc depth) (thing.Closure at env) v = of_enter code AreOne kept (calls code depth) (calls code depth)
      (λ self v. kept.of_tick (calls code depth self v) (calls code depth self v) (called depth self v))
      (code.function at) (thing.Closure at env) env v
  called (suc depth) _ v = kept.of_end Stuck

  pub one_meaning : (main document : Thing) (units : ℕ) (result result' : Result)
      → Meaning code main document units result → Meaning code main document units result' → result ≡ result'
  one_meaning main document units = (kept.of_tick _ _ (called units main document)).same units
