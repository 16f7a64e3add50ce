use Rattle.cd_rules.proofs.ClosedStays.{closed_stays}
use Rattle.cd_rules.proofs.laws.closed_families_stay.Goals as goal

pub returns : goal.returns
returns c = closed_stays
