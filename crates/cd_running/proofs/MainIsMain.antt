-- The program declares one function `main`.
use Rattle.std.proofs.Common.{◌≡◌, refl, sym, ap, ◌∙◌}
use Rattle.std.proofs.lemmas.Option.{same_Some}
use Rattle.cd_program.specs.Expr.{FunctionTree}
use Rattle.cd_evaluation.specs.Code.{place_of}
use Rattle.cd_evaluation.specs.ProgramFunctions.{function_at}
use Rattle.cd_safety.specs.SafeProgram.{IsMain}
use Rattle.cd_running.specs.Inner.WorkProgram.{main, work_program}

-- it is found by its name, and by its place
pub main_is_main : IsMain work_program main
main_is_main = record { declared = refl; found = refl }

-- and no other function is
pub one_main : (f : FunctionTree) → IsMain work_program f → f ≡ main
one_main f is = sym (same_Some main f
    (ap (function_at work_program) (same_Some (place_of main) (place_of f) is.declared) ∙ is.found))
