-- Where the machine began with the application of `main` and stands with an outcome and no frame, this is what the meaning gives.
use Rattle.std.proofs.Common.{◌≡◌, ℕ, [], ◌∷◌, refl, sym, subst, ◌∙◌}
use Rattle.cd_model.specs.Thing as thing
use Rattle.cd_model.specs.Thing.{Thing}
use Rattle.cd_program.specs.Expr.{NoExpr}
use Rattle.cd_evaluation.specs.Runs.{Outcome, Done, Raised, Overflow, Spent, Stuck, Result, Run, ends, on_value}
use Rattle.cd_evaluation.specs.Code.{Code}
use Rattle.cd_evaluation.specs.Meaning.{calls, Meaning}
use Rattle.cd_evaluation.specs.Machine.{Argument, start, returning}
use Rattle.cd_evaluation.specs.Ends.{Ends, Keeps, through}
use Rattle.cd_evaluation.proofs.AtOnce.{with_left}

same_end : (outcome : Outcome) (left : ℕ) (last : Result) → on_value (λ v. ends (Done v)) outcome left last → last ≡ with_left outcome left
same_end (Done v) left last h = h
same_end (Raised v) left last h = h
same_end Overflow left last h = h
same_end Spent left last h = h
same_end Stuck left last h = h

module _ (code : Code) (main document : Thing) (units : ℕ) where
  abbrev goes : Outcome → Run
  goes = through code (calls code units) (Argument main NoExpr thing.NoField ∷ [])

  of_through : (result : Result) → goes (Done document) units result → Meaning code main document units result
  of_through result h = subst (λ (r : Result). Meaning code main document units r)
      (sym (same_end h.1.0.outcome h.1.0.left h.0 h.1.2) ∙ sym h.2) h.1.1

  pub started : (result : Result) → Ends code (calls code units) (start main document units) result → Meaning code main document units result
  started result h = of_through result (subst (λ (r : Result). goes r.outcome r.left result) h.1 h.2)

  pub machine_right : (outcome : Outcome) (left : ℕ) → Keeps code (calls code units) (start main document units) (returning outcome left [])
      → Meaning code main document units (with_left outcome left)
  machine_right outcome left kept = started (with_left outcome left) (kept (with_left outcome left) (with_left outcome left, refl, refl))
