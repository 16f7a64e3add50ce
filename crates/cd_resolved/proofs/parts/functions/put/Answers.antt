use Rattle.cd_resolved.proofs.SlotsFilled.{one_numbered}
use Rattle.cd_resolved.proofs.parts.functions.put.Goals as goal

pub returns-clause-number : goal.returns-clause-number
returns-clause-number c all is before = one_numbered all _ _ _ _ is c.put.ensures.only before
