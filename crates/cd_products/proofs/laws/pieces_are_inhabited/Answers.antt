use Rattle.std.specs.Prelude.{[]}
use Rattle.cd_model.specs.Formula.{in_node}
use Rattle.cd_model.specs.Thing.{IsElement}
use Rattle.cd_products.proofs.QuestionPieces.{are_inhabited}
use Rattle.cd_products.proofs.laws.pieces_are_inhabited.Goals as goal

pub returns : goal.returns
returns c = are_inhabited (in_node []) IsElement
