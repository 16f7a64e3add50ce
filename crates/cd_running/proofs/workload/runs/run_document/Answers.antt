use Rattle.std.proofs.Common.{◌∙◌, sym, subst}
use Rattle.cd_program.specs.Expr.{Program}
use Rattle.cd_replies.specs.Texts.{ReadsAsProgram}
use Rattle.cd_running.specs.Workload.{program_text}
use Rattle.cd_running.proofs.ProgramReads.{program_reads}
use Rattle.cd_running.proofs.workload.runs.run_document.Goals as goal

pub resolved-requires-clause-read : goal.resolved-requires-clause-read
resolved-requires-clause-read c =
    (program_text, subst (λ (program : Program). ReadsAsProgram program_text program) (sym c.in_ok-program.ensures.is) program_reads)

pub run_program-requires-clause-is : goal.run_program-requires-clause-is
run_program-requires-clause-is c = c.in_ok-program-2.ensures.program ∙ c.in_ok-program.ensures.is
