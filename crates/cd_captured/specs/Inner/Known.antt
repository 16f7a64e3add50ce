-- Variables with nodes that stand for others.
use Rattle.std.specs.Prelude.{◌≡◌, ◌<◌, List, map, length}
use Rattle.std.specs.List.{AllZip}
use Rattle.cd_sets.specs.declared.node_id.NodeId.{NodeId}
use Rattle.cd_syntax.specs.Name.{Name}
use Rattle.cd_model.specs.AllOf.{AllOf}
use Rattle.cd_model.specs.Formula.{Graph}
use Rattle.cd_products.specs.Keeping.{HoldSame}

abbrev pub names_of : List (Name × NodeId) → List Name
names_of = map (λ one. one.0)

abbrev pub ids_of : List (Name × NodeId) → List NodeId
ids_of = map (λ one. one.1)

abbrev pub AreSame : Graph → List NodeId → List NodeId → Type 0
AreSame graph = AllZip (HoldSame graph)

-- the names stay, and the nodes of the graph hold the same
pub record StandFor (graph : Graph) (old new : List (Name × NodeId)) : Type 0 where
  pub names : names_of new ≡ names_of old
  pub same : AreSame graph (ids_of old) (ids_of new)
  pub nodes : AllOf (λ one. one.1.0 < length graph) new
