use Rattle.cd_safety.proofs.ProgramSafe.{stays_within}
use Rattle.cd_safety.proofs.laws.values_come_within.Goals as goal

pub returns : goal.returns
returns c = stays_within
