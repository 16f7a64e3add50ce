-- Safe runs are put together as runs are.
use Rattle.std.proofs.Common.{ℕ, zero, suc, List, [], ◌∷◌, Option, sym, subst}
use Rattle.cd_syntax.specs.TypeTree.{Tree}
use Rattle.cd_model.specs.AllOf.{AllOf}
use Rattle.cd_model.specs.Interfaces.{Interfaces}
use Rattle.cd_model.specs.Thing.{Thing, Fields}
use Rattle.cd_typing.specs.Kept.{Kept}
use Rattle.cd_evaluation.specs.Code.{Code}
use Rattle.cd_evaluation.specs.Environment.{Env}
use Rattle.cd_evaluation.specs.Evaluation.{picked, by_pattern}
use Rattle.cd_evaluation.specs.Runs.{Outcome, Done, Raised, Overflow, Spent, Stuck, Result, Run, ends, ticked, on_value, on_raised}
use Rattle.cd_evaluation.specs.Runs.{bound, caught, for_each}
use Rattle.cd_safety.specs.ComesWithin.{IsExpected}
use Rattle.cd_safety.specs.Safe.{IsSafe}
use Rattle.cd_safety.specs.Sound.{IsGood, IsFine}
use Rattle.cd_safety.specs.Ways.{Way, Freely, Within, code_by}
use Rattle.cd_safety.proofs.ConstantsSafe.{fine_weaker}

module _ (fact : ℕ → Fields → Type 0) (interfaces : Interfaces) where
  abbrev Good : Thing → Type 0
  Good = IsGood fact interfaces

  abbrev Fine : (Thing → Type 0) → Outcome → Type 0
  Fine wanted = IsFine fact interfaces wanted

  abbrev Safe : (Thing → Type 0) → (Way → Run) → Type 0
  Safe wanted run = IsSafe fact interfaces wanted run

  -- a result that is fine, and is one within what is kept
  abbrev Comes : (Thing → Type 0) → Run → ℕ → Result → Type 0
  Comes wanted within units result = Fine wanted result.outcome × within units result

  safe_of : (wanted : Thing → Type 0) (run : Way → Run)
      → ((units : ℕ) (result : Result) → run Freely units result → Comes wanted (run Within) units result) → Safe wanted run
  safe_of wanted run comes = record {
    fine = λ units result h. (comes units result h).0;
    within = λ units result h. (comes units result h).1;
  }

  comes_of : (wanted : Thing → Type 0) (run : Way → Run) → Safe wanted run → (units : ℕ) (result : Result)
      → run Freely units result → Comes wanted (run Within) units result
  comes_of wanted run safe units result h = (safe.fine units result h, safe.within units result h)

  end_comes : (wanted : Thing → Type 0) (outcome : Outcome) → Fine wanted outcome → (units : ℕ) (result : Result)
      → ends outcome units result → Comes wanted (ends outcome) units result
  end_comes wanted outcome fine units result h = (subst (λ (r : Result). Fine wanted r.outcome) (sym h) fine, h)

  pub end_safe : (wanted : Thing → Type 0) (outcome : Outcome) → Fine wanted outcome → Safe wanted (λ way. ends outcome)
  end_safe wanted outcome fine = safe_of wanted (λ way. ends outcome) (end_comes wanted outcome fine)

  pub weaker_safe : (one other : Thing → Type 0) → ((v : Thing) → Good v → one v → other v) → {run : Way → Run}
      → Safe one run → Safe other run
  weaker_safe one other weaker safe = record {
    fine = λ units result h. fine_weaker fact interfaces one other weaker result.outcome (safe.fine units result h);
    within = safe.within;
  }

  pub tick_safe : (wanted : Thing → Type 0) {run : Way → Run} → Safe wanted run → Safe wanted (λ way. ticked (run way))
  tick_safe wanted {run = run} safe = safe_of wanted (λ way. ticked (run way)) by_units
    where
      by_units : (units : ℕ) (result : Result) → ticked (run Freely) units result
          → Comes wanted (ticked (run Within)) units result
      by_units zero result h = end_comes wanted Spent tt zero result h
      by_units (suc units) result h = comes_of wanted run safe units result h

  pub bound_safe : (one other : Thing → Type 0) {run : Way → Run} {next : Way → Thing → Run} → Safe one run
      → ((v : Thing) → Good v → one v → Safe other (λ way. next way v)) → Safe other (λ way. bound (run way) (next way))
  bound_safe one other {run = run} {next = next} first later = safe_of other (λ way. bound (run way) (next way))
      (λ units result h. let rest = by_outcome h.0.outcome (first.fine units h.0 h.1) h.0.left result h.2 in
      (rest.0, (h.0, first.within units h.0 h.1, rest.1)))
    where
      by_outcome : (outcome : Outcome) → Fine one outcome → (units : ℕ) (result : Result)
          → on_value (next Freely) outcome units result → Comes other (on_value (next Within) outcome) units result
      by_outcome (Done v) fine units result h = comes_of other (λ way. next way v) (later v fine.0 fine.1) units result h
      by_outcome (Raised v) fine units result h = end_comes other (Raised v) fine units result h
      by_outcome Overflow fine units result h = end_comes other Overflow tt units result h
      by_outcome Spent fine units result h = end_comes other Spent tt units result h
      by_outcome Stuck fine units result h = absurd fine

  pub caught_safe : (wanted : Thing → Type 0) {run : Way → Run} {next : Way → Thing → Run} → Safe wanted run
      → ((v : Thing) → Fine wanted (Raised v) → Safe wanted (λ way. next way v))
      → Safe wanted (λ way. caught (run way) (next way))
  caught_safe wanted {run = run} {next = next} first later = safe_of wanted (λ way. caught (run way) (next way))
      (λ units result h. let rest = by_outcome h.0.outcome (first.fine units h.0 h.1) h.0.left result h.2 in
      (rest.0, (h.0, first.within units h.0 h.1, rest.1)))
    where
      by_outcome : (outcome : Outcome) → Fine wanted outcome → (units : ℕ) (result : Result)
          → on_raised (next Freely) outcome units result → Comes wanted (on_raised (next Within) outcome) units result
      by_outcome (Done v) fine units result h = end_comes wanted (Done v) fine units result h
      by_outcome (Raised v) fine units result h = comes_of wanted (λ way. next way v) (later v fine) units result h
      by_outcome Overflow fine units result h = end_comes wanted Overflow tt units result h
      by_outcome Spent fine units result h = end_comes wanted Spent tt units result h
      by_outcome Stuck fine units result h = absurd fine

  -- each item goes through a safe run
  pub each_safe : (comes goes wanted : Thing → Type 0) {run : Way → Thing → Run}
      → ((v : Thing) → Good v → comes v → Safe goes (λ way. run way v))
      → (all : List Thing) → AllOf (λ v. Good v × comes v) all → {next : List Thing → Run}
      → ((results : List Thing) → AllOf (λ v. Good v × goes v) results → Safe wanted (λ way. next results))
      → Safe wanted (λ way. for_each (run way) all next)
  each_safe comes goes wanted safe [] are later = later [] tt
  each_safe comes goes wanted safe (v ∷ rest) are later = bound_safe goes wanted (tick_safe goes (safe v are.0.0 are.0.1))
      (λ w good fits. each_safe comes goes wanted safe rest are.1 (λ results each. later (w ∷ results) ((good, fits), each)))

  -- whatever a pattern answers for a value that is expected
  pub answers_safe : (kept : Kept) (code : Code) (wanted : Thing → Type 0) (pattern : Tree) (v : Thing)
      → IsExpected interfaces kept pattern v
      → (taken : Way → Env → Run) (fails : Way → Run)
      → ((answer : Option Env) → code.take pattern v answer → Safe wanted (λ way. picked answer (taken way) (fails way)))
      → Safe wanted (λ way. by_pattern (code_by interfaces kept code way) pattern v (taken way) (fails way))
  answers_safe kept code wanted pattern v expected taken fails each = record {
    fine = λ units result h. (each h.0 h.1).fine units result h.2;
    within = λ units result h. (h.0, (expected, h.1), (each h.0 h.1).within units result h.2);
  }
