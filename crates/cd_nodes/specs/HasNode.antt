-- Written types that have nodes.
use Rattle.cd_sets.specs.declared.node_id.NodeId.{NodeId}
use Rattle.cd_model.specs.Formula.{Graph, IsGraph}
use Rattle.cd_model.specs.StandsFor.{StandsFor}
use Rattle.cd_model.specs.Written.{Written}

-- a node of a sound graph stands for the type
pub record HasNode (type : Written) : Type 0 where
  pub graph : Graph
  pub sound : IsGraph graph
  pub id : NodeId
  pub stands : StandsFor graph id type
