-- The steps of the machine where a unit is wanted and none is left are right.
use Rattle.std.proofs.Common.{◌≡◌, zero, List, ◌∷◌, Some, refl}
use Rattle.cd_syntax.specs.Name.{Name}
use Rattle.cd_syntax.specs.TypeTree.{Tree}
use Rattle.cd_model.specs.Thing.{Thing}
use Rattle.cd_matching.specs.Sequences.{items}
use Rattle.cd_program.specs.declared.operator.Op.{Op}
use Rattle.cd_program.specs.declared.operator.Op.TheVariants as op
use Rattle.cd_program.specs.declared.operator.BuiltIn.{BuiltIn as Word}
use Rattle.cd_program.specs.Expr.{Expr, Exprs, Items, Tails, ATail, Operand, Without, Select, Branches}
use Rattle.cd_evaluation.specs.Runs.{Outcome, Done, Raised, Spent, Run}
use Rattle.cd_evaluation.specs.Environment.{Env}
use Rattle.cd_evaluation.specs.Code.{Code}
use Rattle.cd_evaluation.specs.Machine.{returning}
use Rattle.cd_evaluation.specs.Machine.{Frame, Splicing, Argument, Matching, Trying, Letting, Asking, Wording, Tailing, Operating, Listing, Mapping, Sifting, Joining}
use Rattle.cd_evaluation.specs.Ends.{Keeps, back}
use Rattle.cd_evaluation.proofs.AtOnce.{with_left, at_once}

module _ (code : Code) (call : Thing → Thing → Run) (env : Env) (stack : List Frame) (v : Thing) where
  abbrev IsSpent : Outcome → Frame → Type 0
  IsSpent outcome frame = Keeps code call (returning outcome zero (frame ∷ stack)) (returning Spent zero stack)

  spent : (outcome : Outcome) (frame : Frame) → back code call frame outcome zero (with_left Spent zero) → IsSpent outcome frame
  spent outcome frame ends = at_once code call frame outcome Spent zero zero stack ends

  pub spent_argument : (self : Thing) (rest : Exprs) → IsSpent (Done v) (Argument self rest env)
  spent_argument self rest = spent (Done v) (Argument self rest env) (with_left Spent zero, refl, refl)

  pub spent_match : (branches : Branches) → IsSpent (Done v) (Matching branches env)
  spent_match branches = spent (Done v) (Matching branches env) refl

  pub spent_try : (branches : Branches) → IsSpent (Raised v) (Trying branches env)
  spent_try branches = spent (Raised v) (Trying branches env) refl

  pub spent_let : (pattern : Tree) (rest : Expr) → IsSpent (Done v) (Letting pattern rest env)
  spent_let pattern rest = spent (Done v) (Letting pattern rest env) refl

  pub spent_if : (then_one else_one : Expr) → IsSpent (Done v) (Asking then_one else_one env)
  spent_if then_one else_one = spent (Done v) (Asking then_one else_one env) refl

  pub spent_word : (word : Word) → IsSpent (Done v) (Wording word)
  spent_word word = spent (Done v) (Wording word) refl

  pub spent_splice : (done : List Thing) (rest : Items) → IsSpent (Done v) (Splicing done rest env)
  spent_splice done rest = spent (Done v) (Splicing done rest env) refl

  pub spent_operator : (is : Op) (left : Thing) (rest : Tails) → IsSpent (Done v) (Operating is left rest env)
  spent_operator is left rest = spent (Done v) (Operating is left rest env) (with_left Spent zero, refl, refl)

  pub spent_and : (e : Expr) (rest : Tails) → IsSpent (Done v) (Tailing (ATail (Operand op.And e) rest) env)
  spent_and e rest = spent (Done v) (Tailing (ATail (Operand op.And e) rest) env) (with_left Spent zero, refl, refl)

  pub spent_or : (e : Expr) (rest : Tails) → IsSpent (Done v) (Tailing (ATail (Operand op.Or e) rest) env)
  spent_or e rest = spent (Done v) (Tailing (ATail (Operand op.Or e) rest) env) (with_left Spent zero, refl, refl)

  pub spent_without : (label : Name) (rest : Tails) → IsSpent (Done v) (Tailing (ATail (Without label) rest) env)
  spent_without label rest = spent (Done v) (Tailing (ATail (Without label) rest) env) (with_left Spent zero, refl, refl)

  pub spent_select : (label : Name) (rest : Tails) → IsSpent (Done v) (Tailing (ATail (Select label) rest) env)
  spent_select label rest = spent (Done v) (Tailing (ATail (Select label) rest) env) (with_left Spent zero, refl, refl)

  pub spent_first_mapped : (branches : Branches) (one : Thing) (rest : List Thing) → items v ≡ Some (one ∷ rest)
      → IsSpent (Done v) (Listing branches env)
  spent_first_mapped branches one rest found = spent (Done v) (Listing branches env) (rw found (with_left Spent zero, refl, refl))

  pub spent_next_mapped : (branches : Branches) (one : Thing) (done rest : List Thing) → IsSpent (Done v) (Mapping branches env done (one ∷ rest))
  spent_next_mapped branches one done rest = spent (Done v) (Mapping branches env done (one ∷ rest)) (with_left Spent zero, refl, refl)

  pub spent_first_sifted : (branches : Branches) (one : Thing) (rest : List Thing) → items v ≡ Some (one ∷ rest)
      → IsSpent (Done v) (Sifting branches env)
  spent_first_sifted branches one rest found = spent (Done v) (Sifting branches env) (rw found (with_left Spent zero, refl, refl))

  pub spent_next_sifted : (branches : Branches) (one : Thing) (done rest : List Thing) → IsSpent (Done v) (Joining branches env done (one ∷ rest))
  spent_next_sifted branches one done rest = spent (Done v) (Joining branches env done (one ∷ rest)) (with_left Spent zero, refl, refl)
