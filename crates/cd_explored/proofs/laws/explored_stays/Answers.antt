use Rattle.cd_explored.proofs.LongerTables.{explored_stays}
use Rattle.cd_explored.proofs.laws.explored_stays.Goals as goal

pub returns : goal.returns
returns c graph batch kernel accepts root table sound below explored =
    explored_stays graph batch sound kernel accepts below root table explored
