use Rattle.cd_explored.proofs.ExactCaptures.{accepts_below}
use Rattle.cd_explored.proofs.laws.accepting_nodes_are_there.Goals as goal

pub returns : goal.returns
returns c graph kernel first number is = accepts_below graph kernel first is number
