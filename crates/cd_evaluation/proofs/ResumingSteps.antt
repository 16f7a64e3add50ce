-- The steps of the machine from a value to a frame, where no pattern is tried, are right.
use Rattle.std.proofs.Common.{true, false, ◌≡◌, ℕ, suc, List, ◌∷◌, Some, None, refl}
use Rattle.cd_syntax.specs.Name.{Name}
use Rattle.cd_model.specs.Thing as thing
use Rattle.cd_model.specs.Thing.{Thing, Pair}
use Rattle.cd_matching.specs.Sequences.{items}
use Rattle.cd_program.specs.declared.operator.Op.{Op}
use Rattle.cd_program.specs.declared.operator.Op.TheVariants as op
use Rattle.cd_program.specs.declared.operator.BuiltIn.{BuiltIn as Word}
use Rattle.cd_program.specs.Expr as form
use Rattle.cd_program.specs.Expr.{Expr, Exprs, NoExpr, AnExpr, Items, Tails, NoTail, ATail, Operand, Without, Select}
use Rattle.cd_typing.specs.Operators.{truth}
use Rattle.cd_evaluation.specs.Runs.{Outcome, Done, Raised, Overflow, Spent, Stuck, Result, Run, ends, on_value, ticked, followed, bound}
use Rattle.cd_evaluation.specs.Environment.{Env}
use Rattle.cd_evaluation.specs.Lists.{before}
use Rattle.cd_evaluation.specs.RecordFields.{put}
use Rattle.cd_evaluation.specs.Operations.{truth_of, operate, word_outcome, dropped, selected, xml}
use Rattle.cd_evaluation.specs.Code.{Code}
use Rattle.cd_evaluation.specs.Evaluation.{IsStrict, operated, eval, eval_tails}
use Rattle.cd_evaluation.specs.Machine.{State, evaluating, returning}
use Rattle.cd_evaluation.specs.Machine.{Frame, First, Second, Iteming, Splicing, Fielding, Tagging, Attributing, Filling, Called, Argument, Asking, Wording, Tailing, Operating}
use Rattle.cd_evaluation.specs.Steps.{items_next, fields_next}
use Rattle.cd_evaluation.specs.Ends.{Ends, Keeps, back, through}
use Rattle.cd_evaluation.proofs.AtOnce.{with_left, at_once}
use Rattle.cd_evaluation.proofs.EnteringSteps.{items_go, fields_go}

strict_run : (is : Op) → IsStrict is → (v : Thing) (right : Run) (units : ℕ) (result : Result)
    → bound right (λ w. ticked (ends (operate is v w))) units result → operated is v right units result
strict_run op.And strict v right units result h = absurd strict
strict_run op.Or strict v right units result h = absurd strict
strict_run op.Equal strict v right units result h = h
strict_run op.Unequal strict v right units result h = h
strict_run op.Less strict v right units result h = h
strict_run op.AtMost strict v right units result h = h
strict_run op.Greater strict v right units result h = h
strict_run op.AtLeast strict v right units result h = h
strict_run op.Concat strict v right units result h = h
strict_run op.Plus strict v right units result h = h
strict_run op.Minus strict v right units result h = h
strict_run op.Times strict v right units result h = h
strict_run op.Div strict v right units result h = h
strict_run op.Mod strict v right units result h = h

module _ (code : Code) (call : Thing → Thing → Run) (env : Env) (units : ℕ) (stack : List Frame) where
  -- the step from a value that comes to a frame with so many units
  abbrev pub KeepsFrame : (units : ℕ) → Thing → Frame → (new : State) → Type 0
  KeepsFrame units v frame new = Keeps code call (returning (Done v) units (frame ∷ stack)) new

  -- the frame ends at once with this outcome, and takes a unit or none
  without_unit : (v : Thing) (frame : Frame) (outcome : Outcome) → back code call frame (Done v) units (with_left outcome units)
      → KeepsFrame units v frame (returning outcome units stack)
  without_unit v frame outcome done = at_once code call frame (Done v) outcome units units stack done

  with_unit : (v : Thing) (frame : Frame) (outcome : Outcome) → back code call frame (Done v) (suc units) (with_left outcome units)
      → KeepsFrame (suc units) v frame (returning outcome units stack)
  with_unit v frame outcome done = at_once code call frame (Done v) outcome (suc units) units stack done

  -- tuples
  pub last_part : (v : Thing) (next : Expr)
      → KeepsFrame units v (First next NoExpr env) (evaluating next env units (Second v ∷ stack))
  last_part v next result h = (with_left (Done v) units, refl, (h.2.0, (h.0, h.1, h.2.1), h.2.2))

  pub more_parts : (v : Thing) (next third : Expr) (rest : Exprs)
      → KeepsFrame units v (First next (AnExpr third rest) env) (evaluating next env units (First third rest env ∷ Second v ∷ stack))
  more_parts v next third rest result h =
      (with_left (Done v) units, refl, (h.2.2.0, (h.2.0, (h.0, h.1, h.2.1), h.2.2.1), h.2.2.2))

  pub paired : (first second : Thing) → KeepsFrame units second (Second first) (returning (Done (Pair first second)) units stack)
  paired first second = without_unit second (Second first) (Done (Pair first second)) refl

  -- sequences and records
  pub item : (done : List Thing) (rest : Items) (v : Thing)
      → KeepsFrame units v (Iteming done rest env) (items_next rest env (v ∷ done) units stack)
  item done rest v result h = (with_left (Done v) units, refl, items_go code call rest env (v ∷ done) units stack result h)

  pub spliced : (done : List Thing) (rest : Items) (v : Thing) (all : List Thing) → items v ≡ Some all
      → KeepsFrame (suc units) v (Splicing done rest env) (items_next rest env (before all done) units stack)
  spliced done rest v all found result h = (
    with_left (Done v) (suc units),
    refl,
    rw found (items_go code call rest env (before all done) units stack result h),
  )

  pub no_sequence_spliced : (done : List Thing) (rest : Items) (v : Thing) → items v ≡ None
      → KeepsFrame (suc units) v (Splicing done rest env) (returning Stuck units stack)
  no_sequence_spliced done rest v found = with_unit v (Splicing done rest env) Stuck (rw found refl)

  pub field : (done : thing.Fields) (label : Name) (rest : form.Fields) (v : Thing)
      → KeepsFrame units v (Fielding done label rest env) (fields_next rest env (put label v done) units stack)
  field done label rest v result h =
      (with_left (Done v) units, refl, fields_go code call rest env (put label v done) units stack result h)

  -- XML values
  pub tagged : (attributes content : Expr) (v : Thing)
      → KeepsFrame units v (Tagging attributes content env) (evaluating attributes env units (Attributing v content env ∷ stack))
  tagged attributes content v result h = (with_left (Done v) units, refl, (h.2.0, (h.0, h.1, h.2.1), h.2.2))

  pub attributed : (tag : Thing) (content : Expr) (v : Thing)
      → KeepsFrame units v (Attributing tag content env) (evaluating content env units (Filling tag v ∷ stack))
  attributed tag content v result h = (with_left (Done v) units, refl, (h.2.0, (h.0, h.1, h.2.1), h.2.2))

  pub filled : (tag attributes v : Thing) → KeepsFrame units v (Filling tag attributes) (returning (xml tag attributes v) units stack)
  filled tag attributes v = without_unit v (Filling tag attributes) (xml tag attributes v) refl

  -- applications
  pub all_given : (self : Thing) → KeepsFrame units self (Called NoExpr env) (returning (Done self) units stack)
  all_given self = without_unit self (Called NoExpr env) (Done self) refl

  pub next_argument : (self : Thing) (e : Expr) (rest : Exprs)
      → KeepsFrame units self (Called (AnExpr e rest) env) (evaluating e env units (Argument self rest env ∷ stack))
  next_argument self e rest result h = (with_left (Done self) units, refl, (h.2.0, (h.0, h.1, h.2.1), h.2.2))

  -- tests
  pub is_true : (then_one else_one : Expr) (v : Thing) → truth_of v ≡ Some true
      → KeepsFrame (suc units) v (Asking then_one else_one env) (evaluating then_one env units stack)
  is_true then_one else_one v found result h = (with_left (Done v) (suc units), refl, rw found h)

  pub is_false : (then_one else_one : Expr) (v : Thing) → truth_of v ≡ Some false
      → KeepsFrame (suc units) v (Asking then_one else_one env) (evaluating else_one env units stack)
  is_false then_one else_one v found result h = (with_left (Done v) (suc units), refl, rw found h)

  pub no_truth : (then_one else_one : Expr) (v : Thing) → truth_of v ≡ None
      → KeepsFrame (suc units) v (Asking then_one else_one env) (returning Stuck units stack)
  no_truth then_one else_one v found = with_unit v (Asking then_one else_one env) Stuck (rw found refl)

  pub worded : (word : Word) (v : Thing) → KeepsFrame (suc units) v (Wording word) (returning (word_outcome word v) units stack)
  worded word v = with_unit v (Wording word) (word_outcome word v) refl

  -- operators
  pub no_tail : (v : Thing) → KeepsFrame units v (Tailing NoTail env) (returning (Done v) units stack)
  no_tail v = without_unit v (Tailing NoTail env) (Done v) refl

  pub and_true : (e : Expr) (rest : Tails) (v : Thing) → truth_of v ≡ Some true
      → KeepsFrame (suc units) v (Tailing (ATail (Operand op.And e) rest) env) (evaluating e env units (Tailing rest env ∷ stack))
  and_true e rest v found result h = (with_left (Done v) (suc units), refl, (h.2.0, rw found (h.0, h.1, h.2.1), h.2.2))

  pub and_false : (e : Expr) (rest : Tails) (v : Thing) → truth_of v ≡ Some false
      → KeepsFrame (suc units) v (Tailing (ATail (Operand op.And e) rest) env) (returning (Done (truth false)) units (Tailing rest env ∷ stack))
  and_false e rest v found result h = (with_left (Done v) (suc units), refl, (h.2.0, rw found (h.0, h.1, h.2.1), h.2.2))

  pub or_true : (e : Expr) (rest : Tails) (v : Thing) → truth_of v ≡ Some true
      → KeepsFrame (suc units) v (Tailing (ATail (Operand op.Or e) rest) env) (returning (Done (truth true)) units (Tailing rest env ∷ stack))
  or_true e rest v found result h = (with_left (Done v) (suc units), refl, (h.2.0, rw found (h.0, h.1, h.2.1), h.2.2))

  pub or_false : (e : Expr) (rest : Tails) (v : Thing) → truth_of v ≡ Some false
      → KeepsFrame (suc units) v (Tailing (ATail (Operand op.Or e) rest) env) (evaluating e env units (Tailing rest env ∷ stack))
  or_false e rest v found result h = (with_left (Done v) (suc units), refl, (h.2.0, rw found (h.0, h.1, h.2.1), h.2.2))

  pub and_no_truth : (e : Expr) (rest : Tails) (v : Thing) → truth_of v ≡ None
      → KeepsFrame (suc units) v (Tailing (ATail (Operand op.And e) rest) env) (returning Stuck units stack)
  and_no_truth e rest v found =
      with_unit v (Tailing (ATail (Operand op.And e) rest) env) Stuck (rw found (with_left Stuck units, refl, refl))

  pub or_no_truth : (e : Expr) (rest : Tails) (v : Thing) → truth_of v ≡ None
      → KeepsFrame (suc units) v (Tailing (ATail (Operand op.Or e) rest) env) (returning Stuck units stack)
  or_no_truth e rest v found =
      with_unit v (Tailing (ATail (Operand op.Or e) rest) env) Stuck (rw found (with_left Stuck units, refl, refl))

  -- an operator that takes the value of its right operand
  pub operand : (is : Op) (e : Expr) (rest : Tails) (v : Thing) → IsStrict is
      → KeepsFrame units v (Tailing (ATail (Operand is e) rest) env) (evaluating e env units (Operating is v rest env ∷ stack))
  operand is e rest v strict result h = by_way h.0 h.1 h.2.0 h.2.1 h.2.2
    where
      -- the outcome of the right operand, and what is done with it
      by_outcome : (outcome : Outcome) (left : ℕ) (last : Result)
          → back code call (Operating is v rest env) outcome left last
          → followed (on_value (λ w. ticked (ends (operate is v w))) outcome) (on_value (λ w. eval_tails code call rest env w)) left last
      by_outcome (Done w) left last goes = goes
      by_outcome (Raised w) left last goes = (with_left (Raised w) left, refl, goes)
      by_outcome Overflow left last goes = (with_left Overflow left, refl, goes)
      by_outcome Spent left last goes = (with_left Spent left, refl, goes)
      by_outcome Stuck left last goes = (with_left Stuck left, refl, goes)

      by_way : (right : Result) → eval code call e env units right → (last : Result) → back code call (Operating is v rest env) right.outcome right.left last
          → through code call stack last.outcome last.left result
          → Ends code call (returning (Done v) units (Tailing (ATail (Operand is e) rest) env ∷ stack)) result
      by_way right first last goes later =
          let two = by_outcome right.outcome right.left last goes in
          (with_left (Done v) units, refl, (last, (two.0, strict_run is strict v (eval code call e env) units two.0 (right, first, two.1), two.2), later))

  pub operated_ : (is : Op) (left : Thing) (rest : Tails) (v : Thing)
      → KeepsFrame (suc units) v (Operating is left rest env) (returning (operate is left v) units (Tailing rest env ∷ stack))
  operated_ is left rest v result h = (with_left (Done v) (suc units), refl, (h.2.0, (h.0, h.1, h.2.1), h.2.2))

  pub dropped_ : (label : Name) (rest : Tails) (v : Thing)
      → KeepsFrame (suc units) v (Tailing (ATail (Without label) rest) env) (returning (dropped label v) units (Tailing rest env ∷ stack))
  dropped_ label rest v result h = (with_left (Done v) (suc units), refl, (h.2.0, (h.0, h.1, h.2.1), h.2.2))

  pub selected_ : (label : Name) (rest : Tails) (v : Thing)
      → KeepsFrame (suc units) v (Tailing (ATail (Select label) rest) env) (returning (selected label v) units (Tailing rest env ∷ stack))
  selected_ label rest v result h = (with_left (Done v) (suc units), refl, (h.2.0, (h.0, h.1, h.2.1), h.2.2))
