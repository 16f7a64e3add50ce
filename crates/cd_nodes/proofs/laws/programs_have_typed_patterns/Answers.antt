use Rattle.cd_nodes.proofs.ProgramsTyped.{program_typed}
use Rattle.cd_nodes.proofs.laws.programs_have_typed_patterns.Goals as goal

pub returns : goal.returns
returns c = program_typed
