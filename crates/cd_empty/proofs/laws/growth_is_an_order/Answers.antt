use Rattle.cd_empty.proofs.GrowingWorlds.{to_itself, and_further}
use Rattle.cd_empty.proofs.laws.growth_is_an_order.Goals as goal

pub returns-clause-itself : goal.returns-clause-itself
returns-clause-itself c = to_itself

pub returns-clause-further : goal.returns-clause-further
returns-clause-further c = and_further
