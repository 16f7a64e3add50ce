use Rattle.cd_matching.proofs.RestsTake.{rest_takes, rest_fails}
use Rattle.cd_matching.proofs.laws.rests_take.Goals as goal

pub returns-clause-takes : goal.returns-clause-takes
returns-clause-takes c = rest_takes

pub returns-clause-fails : goal.returns-clause-fails
returns-clause-fails c = rest_fails
