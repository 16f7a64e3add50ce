use Rattle.cd_filter.proofs.Accepts.{elements_accepted, values_accepted}
use Rattle.cd_filter.proofs.laws.accepted_types_are_exact.Goals as goal

pub returns-clause-elements : goal.returns-clause-elements
returns-clause-elements c = elements_accepted

pub returns-clause-values : goal.returns-clause-values
returns-clause-values c = values_accepted
