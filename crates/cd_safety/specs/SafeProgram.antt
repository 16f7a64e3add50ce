-- What is promised of each run of a program that is accepted.
use Rattle.std.specs.Prelude.{◌≡◌, ◌≢◌, ℕ, true, Some, codes}
use Rattle.cd_model.specs.AllOf.{AnyOf}
use Rattle.cd_model.specs.Thing.{Thing, Closure, NoField, IsElement, IsData}
use Rattle.cd_model.specs.Written.{Written, in_written}
use Rattle.cd_matching.specs.WrittenPattern.{in_scope}
use Rattle.cd_program.specs.Expr.{Signature, FunctionTree, Program}
use Rattle.cd_typing.specs.Typed.{scope_of}
use Rattle.cd_evaluation.specs.Code.{place_of}
use Rattle.cd_evaluation.specs.Meaning.{Meaning}
use Rattle.cd_evaluation.specs.ProgramCode.{code_of}
use Rattle.cd_evaluation.specs.ProgramFunctions.{declared_at, function_at}
use Rattle.cd_evaluation.specs.ProgramInterfaces.{interface_of}
use Rattle.cd_evaluation.specs.Runs.{Done, Raised, Stuck, Result}

-- an element that is data, as documents are
pub record IsDocument (d : Thing) : Type 0 where
  pub element : IsElement d
  pub plain : IsData d

-- the function that a program declares as `main`
pub record IsMain (program : Program) (f : FunctionTree) : Type 0 where
  pub declared : declared_at program (codes "main") ≡ Some (place_of f)
  pub found : function_at program (place_of f) ≡ Some f

-- what a program may come to on a document, with so many units
abbrev pub ComesTo : Program → (main : FunctionTree) → (document : Thing) → ℕ → Result → Type 0
ComesTo program main document units result =
    Meaning (code_of program) (Closure (place_of main) NoField) document units result

-- each run on a document is safe, and what it ends with is in the written type
pub record RunsSafely (program : Program) (main : FunctionTree) (document : Thing) (type : Written)
    : Type 0 where
  pub never_stuck : (units : ℕ) (result : Result) → ComesTo program main document units result
      → result.outcome ≢ Stuck
  pub output : (units : ℕ) (result : Result) → ComesTo program main document units result
      → (v : Thing) → result.outcome ≡ Done v → IsDocument v × in_written v type true
  pub raised : (units : ℕ) (result : Result) → ComesTo program main document units result
      → (v : Thing) → result.outcome ≡ Raised v → IsDocument v

-- A program is safe: for each arrow that is written of its function `main`, on each document in the
-- argument of the arrow, its runs are safe, and what they end with is in the result of the arrow
abbrev pub IsSafeProgram : Program → Type 0
IsSafeProgram program = (main : FunctionTree) → IsMain program main
    → (signature : Signature) → AnyOf (λ one. one ≡ signature) (interface_of main)
    → (document : Thing) → IsDocument document
    → in_written document (in_scope (scope_of program) signature.takes) true
    → RunsSafely program main document (in_scope (scope_of program) signature.gives)
