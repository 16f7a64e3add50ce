use Rattle.cd_model.specs.Formula.{in_node}
use Rattle.cd_model.specs.Interfaces.{value_in_node}
use Rattle.cd_model.specs.Thing.{IsElement, IsValue}
use Rattle.cd_model.proofs.Sorts as sort
use Rattle.cd_products.proofs.Decided.{elements_decided}
use Rattle.cd_products.proofs.Products.{triples_are, triples_cover}
use Rattle.cd_products.proofs.laws.triples_are_exact.Goals as goal

pub returns-clause-elements : goal.returns-clause-elements
returns-clause-elements c graph inhabited question clauses drops =
    triples_are (in_node graph) IsElement inhabited sort.elements.pair sort.elements.xml
    (elements_decided graph) drops question clauses

pub returns-clause-values : goal.returns-clause-values
returns-clause-values c graph interfaces inhabited question clauses decided drops =
    triples_cover (value_in_node graph interfaces) IsValue inhabited sort.values.pair
    sort.values.xml decided drops question clauses
