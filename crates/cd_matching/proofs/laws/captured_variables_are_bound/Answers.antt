use Rattle.cd_sets.specs.declared.node_id.NodeId.{NodeId}
use Rattle.cd_matching.proofs.Binding.{bound}
use Rattle.cd_matching.proofs.laws.captured_variables_are_bound.Goals as goal

pub returns : goal.returns
returns c = bound NodeId
