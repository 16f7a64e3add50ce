use Rattle.cd_nodes.proofs.TypesResolved.{type_has_node}
use Rattle.cd_nodes.proofs.laws.types_have_nodes.Goals as goal

pub returns : goal.returns
returns c = type_has_node
