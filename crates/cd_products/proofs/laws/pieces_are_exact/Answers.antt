use Rattle.cd_model.specs.Formula.{in_node}
use Rattle.cd_model.specs.Interfaces.{value_in_node}
use Rattle.cd_model.specs.Thing.{IsElement, IsValue}
use Rattle.cd_products.proofs.Decided.{elements_decided}
use Rattle.cd_products.proofs.QuestionPieces.{only, cover}
use Rattle.cd_products.proofs.laws.pieces_are_exact.Goals as goal

pub returns-clause-elements : goal.returns-clause-elements
returns-clause-elements c graph inhabited clauses elements drops sorts = (
  only (in_node graph) IsElement inhabited elements clauses,
  cover (in_node graph) IsElement inhabited (elements_decided graph) drops elements sorts clauses,
)

pub returns-clause-values : goal.returns-clause-values
returns-clause-values c graph interfaces inhabited clauses values decided drops sorts = (
  only (value_in_node graph interfaces) IsValue inhabited values clauses,
  cover (value_in_node graph interfaces) IsValue inhabited decided drops values sorts clauses,
)
