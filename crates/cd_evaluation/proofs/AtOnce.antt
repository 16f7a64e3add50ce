-- A frame that ends with an outcome at once, and takes units or none.
use Rattle.std.proofs.Common.{ℕ, List, ◌∷◌, refl, subst}
use Rattle.cd_model.specs.Thing.{Thing}
use Rattle.cd_evaluation.specs.Runs.{Outcome, Result, Run}
use Rattle.cd_evaluation.specs.Code.{Code}
use Rattle.cd_evaluation.specs.Machine.{Frame, returning}
use Rattle.cd_evaluation.specs.Ends.{Keeps, back, through}

abbrev pub with_left : Outcome → ℕ → Result
with_left outcome units = record { outcome = outcome; left = units }

pub at_once : (code : Code) (call : Thing → Thing → Run) (frame : Frame) (outcome outcome' : Outcome) (units units' : ℕ) (stack : List Frame)
    → back code call frame outcome units (with_left outcome' units')
    → Keeps code call (returning outcome units (frame ∷ stack)) (returning outcome' units' stack)
at_once code call frame outcome outcome' units units' stack done result h = (
  with_left outcome units,
  refl,
  (with_left outcome' units', done, subst (λ (r : Result). through code call stack r.outcome r.left result) h.1 h.2),
)
