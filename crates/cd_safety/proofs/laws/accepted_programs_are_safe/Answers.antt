use Rattle.cd_safety.proofs.ProgramSafe.{program_safe}
use Rattle.cd_safety.proofs.laws.accepted_programs_are_safe.Goals as goal

pub returns : goal.returns
returns c = program_safe
