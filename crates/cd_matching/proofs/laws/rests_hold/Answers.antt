use Rattle.cd_matching.proofs.RestsHold.{rest_holds, rest_holds_values}
use Rattle.cd_matching.proofs.laws.rests_hold.Goals as goal

pub returns-clause-elements : goal.returns-clause-elements
returns-clause-elements c = rest_holds

pub returns-clause-values : goal.returns-clause-values
returns-clause-values c = rest_holds_values
