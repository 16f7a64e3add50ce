-- What is found of the program on a document: a run of it, which gives its value and leaves the units that it did not use.
use Rattle.std.proofs.Common.{◌≡◌, ℕ, suc, ◌+◌, ◌-◌, ◌≤◌, Option, Some, None, ap, subst, arith}
use Rattle.cd_model.specs.Thing.{Thing}
use Rattle.cd_program.specs.Expr.{Program}
use Rattle.cd_evaluation.specs.ProgramInterfaces.{interface_of}
use Rattle.cd_evaluation.specs.Runs.{Done, Result}
use Rattle.cd_running.specs.RunAnswer.{UNITS}
use Rattle.cd_running.specs.RunsOn.{RunsOn}
use Rattle.cd_running.proofs.InputDecided.{in_or_none}
use Rattle.cd_running.specs.Inner.WorkProgram.{work_program, main}
use Rattle.cd_running.specs.Inner.WorkValues.{document, result}
use Rattle.cd_running.specs.WorkAnswer.{Runs}
use Rattle.cd_running.proofs.DocumentIsInput.{document_is_input}
use Rattle.cd_running.proofs.DocumentWrites.{document_writes}
use Rattle.cd_running.proofs.MainIsMain.{main_is_main}
use Rattle.cd_running.proofs.ProgramReads.{program_reads}
use Rattle.cd_running.proofs.ProgramTyped.{program_is_typed}
use Rattle.cd_running.proofs.WorkRuns.{work_runs_with, one_result_with}

-- the units that are left, and how the run ends
abbrev pub left_of : (size : ℕ) → ℕ
left_of size = UNITS - suc size

abbrev pub end_of : (size : ℕ) → Result
end_of size = record { outcome = Done (result size); left = left_of size }

units_are : (size : ℕ) → size ≤ 100000 → suc size + left_of size ≡ UNITS
units_are size small = omega (arith, small)

pub run_found : (size : ℕ) → size ≤ 100000 → (found : Option Result) → RunsOn work_program (document size) UNITS found
    → found ≡ Some (end_of size)
run_found size small None none =
    absurd (in_or_none work_program (document size) (interface_of main) (document_is_input size small) (none main main_is_main))
run_found size small (Some ended) runs =
    ap Some (one_result_with size (left_of size) UNITS small (units_are size small) ended (runs main main_is_main).comes)

-- and so for a program and a value that are these
pub run_found_of : (size : ℕ) → size ≤ 100000 → (program : Program) → program ≡ work_program → (v : Thing) → v ≡ document size
    → (found : Option Result) → RunsOn program v UNITS found → found ≡ Some (end_of size)
run_found_of size small program same v is found runs =
    run_found size small found
    (subst (λ v. RunsOn work_program v UNITS found) is (subst (λ program. RunsOn program v UNITS found) same runs))

-- which is what the answer says of the run, if so many units were used
pub runs : (size used : ℕ) → size ≤ 100000 → used + left_of size ≡ UNITS → Runs size used (result size)
runs size used small units = record {
  program = work_program;
  reads = program_reads;
  typed = program_is_typed;
  main = main;
  is_main = main_is_main;
  document = document size;
  writes = document_writes size small;
  input = document_is_input size small;
  left = left_of size;
  comes = work_runs_with size (left_of size) UNITS small (units_are size small);
  units = units;
}
