use Rattle.cd_filter.proofs.Accepts.{elements_accepting, values_accepting}
use Rattle.cd_filter.proofs.laws.nodes_accept.Goals as goal

pub returns-clause-elements : goal.returns-clause-elements
returns-clause-elements c = elements_accepting

pub returns-clause-values : goal.returns-clause-values
returns-clause-values c = values_accepting
