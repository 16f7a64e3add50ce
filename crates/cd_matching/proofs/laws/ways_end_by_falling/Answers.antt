use Rattle.cd_sets.specs.declared.node_id.NodeId.{NodeId}
use Rattle.cd_matching.proofs.Falling.{is_there, ends_by_falling}
use Rattle.cd_matching.proofs.laws.ways_end_by_falling.Goals as goal

pub returns : goal.returns
returns c nodes rank falls = ends_by_falling NodeId nodes rank falls (is_there nodes)
