use Rattle.cd_program.specs.PlainProgram.{plain_program}
use Rattle.cd_running.proofs.ProgramReads.{one_program, program_is_not_refused}
use Rattle.cd_running.proofs.workload.runs.workload_program.Goals as goal

-- the text reads as a program
pub unreachable-requires : goal.unreachable-requires
unreachable-requires c =
    program_is_not_refused c.in-Err-Refused.field-0-0 (rw (c.in-Err-Refused.is, c.in-Err-Refused.field-0-is) at c.read_program.ensures.refused)

-- which is this one
pub returns-in-Ok-clause-is : goal.returns-in-Ok-clause-is
returns-in-Ok-clause-is c = one_program (plain_program c.in-Ok.program) c.in-Ok.ensures.read
