-- One graph for types of different graphs, so that one element can stand in for a value at all of
-- them.
use Rattle.std.specs.Prelude.{◌≡◌, ◌++◌, List}
use Rattle.cd_sets.specs.declared.node_id.NodeId.{NodeId}
use Rattle.cd_model.specs.AllOf.{AllOf}
use Rattle.cd_model.specs.BuiltIns.{built_ins}
use Rattle.cd_model.specs.Formula.{Graph, IsGraph}
use Rattle.cd_typing.specs.Typ.{Typ}
use Rattle.cd_safety.specs.HoldsAs.{HoldsAs}

-- each of these types has a node that holds the same
abbrev pub HaveNodes : Graph → List Typ → Type 0
HaveNodes graph types = AllOf (λ t. (id : NodeId) × HoldsAs graph id t) types

pub record SharedGraph (types : List Typ) : Type 0 where
  pub graph : Graph
  pub more : Graph
  pub begins : graph ≡ built_ins ++ more
  pub sound : IsGraph graph
  pub nodes : HaveNodes graph types
