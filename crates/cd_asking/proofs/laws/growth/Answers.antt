use Rattle.cd_asking.proofs.Grown.{knows_in_grown}
use Rattle.cd_asking.proofs.laws.growth.Goals as goal

pub returns : goal.returns
returns c = knows_in_grown
