use Rattle.cd_model.specs.Formula.{in_node}
use Rattle.cd_model.specs.Interfaces.{value_in_node}
use Rattle.cd_model.specs.Thing.{IsElement, IsValue}
use Rattle.cd_products.proofs.Decided.{elements_apart, values_apart}
use Rattle.cd_products.proofs.QuestionPieces.{once}
use Rattle.cd_products.proofs.laws.pieces_are_disjoint.Goals as goal

pub returns-clause-elements : goal.returns-clause-elements
returns-clause-elements c graph inhabited clause elements =
    once (in_node graph) IsElement inhabited (elements_apart graph) elements clause

pub returns-clause-values : goal.returns-clause-values
returns-clause-values c graph interfaces inhabited clause values =
    once (value_in_node graph interfaces) IsValue inhabited (values_apart graph interfaces) values
    clause
