use Rattle.cd_tasks.proofs.WaysWithin.{way_within}
use Rattle.cd_tasks.proofs.laws.partial_is_within.Goals as goal

pub returns : goal.returns
returns c = way_within
