use Rattle.cd_code.proofs.ReadyStays.{ready_renamed, ready_grown}
use Rattle.cd_code.proofs.laws.codes_stay.Goals as goal

pub returns-clause-longer : goal.returns-clause-longer
returns-clause-longer c = ready_renamed

pub returns-clause-grown : goal.returns-clause-grown
returns-clause-grown c = ready_grown
