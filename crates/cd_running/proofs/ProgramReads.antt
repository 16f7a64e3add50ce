-- The text of the workload's program reads as its program, as no other one, and is not refused.
use Rattle.std.proofs.Common.{◌≡◌, refl}
use Rattle.std.specs.Str.{IsUtf8}
use Rattle.std.proofs.lemmas.Str.{IsUtf8-from_ascii}
use Rattle.cd_program.specs.Expr.{Program}
use Rattle.cd_replies.specs.Texts.{ReadsAsProgram, RefusesProgram}
use Rattle.cd_replies.specs.declared.refusal.Refusal.{Refusal}
use Rattle.cd_replies.proofs.OneRefusal.{reads_one_program, program_unrefused}
use Rattle.cd_running.specs.Workload.{program_text}
use Rattle.cd_running.specs.Inner.WorkProgram.{work_program}
use Rattle.cd_running.proofs.AsciiTexts.{known_ascii}
use Rattle.cd_running.proofs.ProgramTokens.{program_tokens}
use Rattle.cd_running.proofs.ProgramSpelled.{program_spelled}
use Rattle.cd_running.proofs.ProgramRun.{tokens_write_program}
use Rattle.cd_running.proofs.ProgramNamed.{program_named}

-- it is ASCII, so it is UTF-8
pub program_encoded : IsUtf8 program_text
program_encoded = IsUtf8-from_ascii program_text (known_ascii program_text refl)

pub program_reads : ReadsAsProgram program_text work_program
program_reads = record {
  tokens = program_tokens;
  spelled = program_spelled;
  written = tokens_write_program;
  ends = refl;
  sound = program_named;
}

pub one_program : (program : Program) → ReadsAsProgram program_text program → program ≡ work_program
one_program program reads = reads_one_program program_text program work_program reads program_reads

pub program_is_not_refused : (found : Refusal) → RefusesProgram program_text found → ⊥
program_is_not_refused = program_unrefused program_text work_program program_reads
