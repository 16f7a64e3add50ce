use Rattle.cd_shared.proofs.Images.{elements, values, stand}
use Rattle.cd_shared.proofs.laws.shared_nodes_hold_the_same.Goals as goal

pub returns-clause-elements : goal.returns-clause-elements
returns-clause-elements c = elements

pub returns-clause-values : goal.returns-clause-values
returns-clause-values c = values

pub returns-clause-stand : goal.returns-clause-stand
returns-clause-stand c = stand
