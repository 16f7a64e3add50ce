-- The steps of the machine where an outcome goes past a frame are right: what is no value goes past each frame but that of a `try`,
-- and what was not raised past that of a `try`.
use Rattle.std.proofs.Common.{ℕ, List, ◌∷◌, refl}
use Rattle.cd_model.specs.Thing.{Thing}
use Rattle.cd_evaluation.specs.Runs.{Outcome, Done, Raised, Overflow, Spent, Stuck, Run, on_value, on_raised}
use Rattle.cd_evaluation.specs.Code.{Code}
use Rattle.cd_evaluation.specs.Machine.{Frame, Trying, returning}
use Rattle.cd_evaluation.specs.Ends.{Keeps, back, resumes}
use Rattle.cd_evaluation.proofs.AtOnce.{with_left, at_once}

abbrev pub IsNoValue : Outcome → Type 0
IsNoValue (Done v) = ⊥
IsNoValue outcome = Unit {0}

abbrev pub IsNotRaised : Outcome → Type 0
IsNotRaised (Raised v) = ⊥
IsNotRaised outcome = Unit {0}

abbrev pub IsPast : Frame → Outcome → Type 0
IsPast (Trying branches env) outcome = IsNotRaised outcome
IsPast frame outcome = IsNoValue outcome

module _ (code : Code) (call : Thing → Thing → Run) (units : ℕ) where
  past_value : (next : Thing → Run) (outcome : Outcome) → IsNoValue outcome → on_value next outcome units (with_left outcome units)
  past_value next (Done v) none = absurd none
  past_value next (Raised v) none = refl
  past_value next Overflow none = refl
  past_value next Spent none = refl
  past_value next Stuck none = refl

  past_raised : (next : Thing → Run) (outcome : Outcome) → IsNotRaised outcome → on_raised next outcome units (with_left outcome units)
  past_raised next (Done v) none = refl
  past_raised next (Raised v) none = absurd none
  past_raised next Overflow none = refl
  past_raised next Spent none = refl
  past_raised next Stuck none = refl

  goes_past : (frame : Frame) (outcome : Outcome) → IsPast frame outcome
      → back code call frame outcome units (with_left outcome units)
  goes_past (Trying branches env) outcome past = past_raised _ outcome past
  goes_past frame outcome past = past_value (resumes code call frame) outcome past

  pub unwound : (frame : Frame) (outcome : Outcome) (stack : List Frame) → IsPast frame outcome
      → Keeps code call (returning outcome units (frame ∷ stack)) (returning outcome units stack)
  unwound frame outcome stack past = at_once code call frame outcome outcome units units stack (goes_past frame outcome past)
