use Rattle.cd_sets.specs.declared.node_id.NodeId.{NodeId}
use Rattle.cd_matching.proofs.Unfolding.{unfolds}
use Rattle.cd_matching.proofs.laws.nodes_take_by_rules.Goals as goal

pub returns : goal.returns
returns c = unfolds NodeId
