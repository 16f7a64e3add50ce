use Rattle.cd_model.specs.Formula.{in_node}
use Rattle.cd_model.specs.Interfaces.{value_in_node}
use Rattle.cd_model.specs.Thing.{IsElement, IsValue}
use Rattle.cd_explored.proofs.Narrowed.{within_narrows, without_narrows, within_asks}
use Rattle.cd_explored.proofs.Narrowed.{without_asks}
use Rattle.cd_explored.proofs.laws.questions_are_narrowed.Goals as goal

pub returns-clause-elements : goal.returns-clause-elements
returns-clause-elements c graph id question = (
  within_narrows (in_node graph) IsElement id question,
  without_narrows (in_node graph) IsElement id question,
)

pub returns-clause-values : goal.returns-clause-values
returns-clause-values c graph interfaces id question = (
  within_narrows (value_in_node graph interfaces) IsValue id question,
  without_narrows (value_in_node graph interfaces) IsValue id question,
)

pub returns-clause-nodes : goal.returns-clause-nodes
returns-clause-nodes c count id question below asks =
    (within_asks count id question below asks, without_asks count id question below asks)
