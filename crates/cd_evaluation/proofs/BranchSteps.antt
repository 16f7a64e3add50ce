-- The steps of the machine that try patterns are right.
use Rattle.std.proofs.Common.{◌≡◌, ℕ, suc, List, [], ◌∷◌, Some, None, refl}
use Rattle.cd_syntax.specs.TypeTree.{Tree}
use Rattle.cd_model.specs.Thing.{Thing}
use Rattle.cd_matching.specs.Sequences.{nil, sequence_of, items}
use Rattle.cd_program.specs.Expr.{Expr, Branches}
use Rattle.cd_evaluation.specs.Runs.{Outcome, Done, Raised, Stuck, Run}
use Rattle.cd_evaluation.specs.Environment.{Env, with_all}
use Rattle.cd_evaluation.specs.Lists.{before}
use Rattle.cd_evaluation.specs.Code.{Code}
use Rattle.cd_evaluation.specs.Evaluation.{mapped, joined}
use Rattle.cd_evaluation.specs.Machine.{State, evaluating, returning}
use Rattle.cd_evaluation.specs.Machine.{Frame, Matching, Trying, Letting, Listing, Mapping, Sifting, Joining}
use Rattle.cd_evaluation.specs.Ends.{Keeps, back}
use Rattle.cd_evaluation.specs.Picks.{Picks}
use Rattle.cd_evaluation.proofs.AtOnce.{with_left, at_once}
use Rattle.cd_evaluation.proofs.PickedBranches.{some_picked, none_picked}

module _ (code : Code) (call : Thing → Thing → Run) (env : Env) (units : ℕ) (stack : List Frame) where
  -- the step from an outcome that comes to a frame, which takes a unit, or takes none
  abbrev UnitTaken : Outcome → Frame → (new : State) → Type 0
  UnitTaken outcome frame new = Keeps code call (returning outcome (suc units) (frame ∷ stack)) new

  abbrev NoneTaken : Outcome → Frame → (new : State) → Type 0
  NoneTaken outcome frame new = Keeps code call (returning outcome units (frame ∷ stack)) new

  -- the body of a branch, with what its pattern captured
  abbrev enters : (body : Expr) (captures : Env) → List Frame → State
  enters body captures frames = evaluating body (with_all captures env) units frames

  with_unit : (outcome : Outcome) (frame : Frame) (outcome' : Outcome) → back code call frame outcome (suc units) (with_left outcome' units)
      → UnitTaken outcome frame (returning outcome' units stack)
  with_unit outcome frame outcome' done = at_once code call frame outcome outcome' (suc units) units stack done

  without_unit : (outcome : Outcome) (frame : Frame) (outcome' : Outcome) → back code call frame outcome units (with_left outcome' units)
      → NoneTaken outcome frame (returning outcome' units stack)
  without_unit outcome frame outcome' done = at_once code call frame outcome outcome' units units stack done

  -- `match`
  pub matched : (branches : Branches) (v : Thing) (body : Expr) (captures : Env) → Picks code branches v (Some (body, captures))
      → UnitTaken (Done v) (Matching branches env) (enters body captures stack)
  matched branches v body captures picks result h = (
    with_left (Done v) (suc units),
    refl,
    (h.0, some_picked code call branches env v Stuck body captures picks units h.0 h.1, h.2),
  )

  pub none_matched : (branches : Branches) (v : Thing) → Picks code branches v None
      → UnitTaken (Done v) (Matching branches env) (returning Stuck units stack)
  none_matched branches v picks = with_unit (Done v) (Matching branches env) Stuck
      (none_picked code call branches env v Stuck picks units _ refl)

  -- `try`, where a value was raised
  pub caught_one : (branches : Branches) (v : Thing) (body : Expr) (captures : Env) → Picks code branches v (Some (body, captures))
      → UnitTaken (Raised v) (Trying branches env) (enters body captures stack)
  caught_one branches v body captures picks result h = (
    with_left (Raised v) (suc units),
    refl,
    (h.0, some_picked code call branches env v (Raised v) body captures picks units h.0 h.1, h.2),
  )

  pub raised_again : (branches : Branches) (v : Thing) → Picks code branches v None
      → UnitTaken (Raised v) (Trying branches env) (returning (Raised v) units stack)
  raised_again branches v picks = with_unit (Raised v) (Trying branches env) (Raised v)
      (none_picked code call branches env v (Raised v) picks units _ refl)

  -- `let`
  pub let_taken : (pattern : Tree) (rest : Expr) (v : Thing) (captures : Env) → code.take pattern v (Some captures)
      → UnitTaken (Done v) (Letting pattern rest env) (enters rest captures stack)
  let_taken pattern rest v captures take result h =
      (with_left (Done v) (suc units), refl, (h.0, (Some captures, take, h.1), h.2))

  pub let_failed : (pattern : Tree) (rest : Expr) (v : Thing) → code.take pattern v None
      → UnitTaken (Done v) (Letting pattern rest env) (returning Stuck units stack)
  let_failed pattern rest v take = with_unit (Done v) (Letting pattern rest env) Stuck (None, take, refl)

  -- `map`
  pub nothing_mapped : (branches : Branches) (v : Thing) → items v ≡ Some []
      → NoneTaken (Done v) (Listing branches env) (returning (Done (sequence_of [])) units stack)
  nothing_mapped branches v found = without_unit (Done v) (Listing branches env) (Done (sequence_of [])) (rw found refl)

  pub no_sequence_mapped : (branches : Branches) (v : Thing) → items v ≡ None
      → NoneTaken (Done v) (Listing branches env) (returning Stuck units stack)
  no_sequence_mapped branches v found = without_unit (Done v) (Listing branches env) Stuck (rw found refl)

  pub first_mapped : (branches : Branches) (v one : Thing) (rest : List Thing) (body : Expr) (captures : Env)
      → items v ≡ Some (one ∷ rest) → Picks code branches one (Some (body, captures))
      → UnitTaken (Done v) (Listing branches env) (enters body captures (Mapping branches env [] rest ∷ stack))
  first_mapped branches v one rest body captures found picks result h = (
    with_left (Done v) (suc units),
    refl,
    (h.2.0, rw found (h.0, some_picked code call branches env one Stuck body captures picks units h.0 h.1, h.2.1), h.2.2),
  )

  pub first_not_mapped : (branches : Branches) (v one : Thing) (rest : List Thing) → items v ≡ Some (one ∷ rest) → Picks code branches one None
      → UnitTaken (Done v) (Listing branches env) (returning Stuck units stack)
  first_not_mapped branches v one rest found picks = with_unit (Done v) (Listing branches env) Stuck
      (rw found (with_left Stuck units, none_picked code call branches env one Stuck picks units _ refl, refl))

  pub next_mapped : (branches : Branches) (v one : Thing) (done rest : List Thing) (body : Expr) (captures : Env)
      → Picks code branches one (Some (body, captures))
      → UnitTaken (Done v) (Mapping branches env done (one ∷ rest)) (enters body captures (Mapping branches env (v ∷ done) rest ∷ stack))
  next_mapped branches v one done rest body captures picks result h = (
    with_left (Done v) (suc units),
    refl,
    (h.2.0, (h.0, some_picked code call branches env one Stuck body captures picks units h.0 h.1, h.2.1), h.2.2),
  )

  pub next_not_mapped : (branches : Branches) (v one : Thing) (done rest : List Thing) → Picks code branches one None
      → UnitTaken (Done v) (Mapping branches env done (one ∷ rest)) (returning Stuck units stack)
  next_not_mapped branches v one done rest picks = with_unit (Done v) (Mapping branches env done (one ∷ rest)) Stuck
      (with_left Stuck units, none_picked code call branches env one Stuck picks units _ refl, refl)

  pub all_mapped : (branches : Branches) (v : Thing) (done : List Thing)
      → NoneTaken (Done v) (Mapping branches env done []) (returning (mapped (before done (v ∷ []))) units stack)
  all_mapped branches v done = without_unit (Done v) (Mapping branches env done []) _ refl

  -- `transform`
  pub nothing_sifted : (branches : Branches) (v : Thing) → items v ≡ Some []
      → NoneTaken (Done v) (Sifting branches env) (returning (joined []) units stack)
  nothing_sifted branches v found = without_unit (Done v) (Sifting branches env) (joined []) (rw found refl)

  pub no_sequence_sifted : (branches : Branches) (v : Thing) → items v ≡ None
      → NoneTaken (Done v) (Sifting branches env) (returning Stuck units stack)
  no_sequence_sifted branches v found = without_unit (Done v) (Sifting branches env) Stuck (rw found refl)

  pub first_sifted : (branches : Branches) (v one : Thing) (rest : List Thing) (body : Expr) (captures : Env)
      → items v ≡ Some (one ∷ rest) → Picks code branches one (Some (body, captures))
      → UnitTaken (Done v) (Sifting branches env) (enters body captures (Joining branches env [] rest ∷ stack))
  first_sifted branches v one rest body captures found picks result h = (
    with_left (Done v) (suc units),
    refl,
    (h.2.0, rw found (h.0, some_picked code call branches env one (Done nil) body captures picks units h.0 h.1, h.2.1), h.2.2),
  )

  pub first_left_out : (branches : Branches) (v one : Thing) (rest : List Thing) → items v ≡ Some (one ∷ rest) → Picks code branches one None
      → UnitTaken (Done v) (Sifting branches env) (returning (Done nil) units (Joining branches env [] rest ∷ stack))
  first_left_out branches v one rest found picks result h = (
    with_left (Done v) (suc units),
    refl,
    (h.2.0, rw found (h.0, none_picked code call branches env one (Done nil) picks units h.0 h.1, h.2.1), h.2.2),
  )

  pub next_sifted : (branches : Branches) (v one : Thing) (done rest : List Thing) (body : Expr) (captures : Env)
      → Picks code branches one (Some (body, captures))
      → UnitTaken (Done v) (Joining branches env done (one ∷ rest)) (enters body captures (Joining branches env (v ∷ done) rest ∷ stack))
  next_sifted branches v one done rest body captures picks result h = (
    with_left (Done v) (suc units),
    refl,
    (h.2.0, (h.0, some_picked code call branches env one (Done nil) body captures picks units h.0 h.1, h.2.1), h.2.2),
  )

  pub next_left_out : (branches : Branches) (v one : Thing) (done rest : List Thing) → Picks code branches one None
      → UnitTaken (Done v) (Joining branches env done (one ∷ rest)) (returning (Done nil) units (Joining branches env (v ∷ done) rest ∷ stack))
  next_left_out branches v one done rest picks result h = (
    with_left (Done v) (suc units),
    refl,
    (h.2.0, (h.0, none_picked code call branches env one (Done nil) picks units h.0 h.1, h.2.1), h.2.2),
  )

  pub all_sifted : (branches : Branches) (v : Thing) (done : List Thing)
      → NoneTaken (Done v) (Joining branches env done []) (returning (joined (before done (v ∷ []))) units stack)
  all_sifted branches v done = without_unit (Done v) (Joining branches env done []) _ refl
