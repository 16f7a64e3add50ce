-- What bodies have to be within.
use Rattle.std.specs.Prelude.{◌<◌, List, length, Option, Some, None}
use Rattle.cd_sets.specs.declared.node_id.NodeId.{NodeId}
use Rattle.cd_model.specs.AllOf.{AllOf}
use Rattle.cd_model.specs.Formula.{Graph}
use Rattle.cd_meaning.specs.Sets.{◌⊆◌, elements_of}
use Rattle.cd_check.specs.declared.bodies.Limit.{Limit}

-- a limit is a node of the graph
abbrev pub IsLimit : Graph → Option Limit → Type 0
IsLimit graph None = Unit {0}
IsLimit graph (Some limit) = limit.node.0 < length graph

-- nodes are within it
abbrev pub AreWithin : Graph → Option Limit → List NodeId → Type 0
AreWithin graph None ids = Unit {0}
AreWithin graph (Some limit) ids =
    AllOf (λ id. elements_of graph id ⊆ elements_of graph limit.node) ids

abbrev pub IsOneWithin : Graph → Option Limit → Option NodeId → Type 0
IsOneWithin graph (Some limit) (Some id) = elements_of graph id ⊆ elements_of graph limit.node
IsOneWithin graph limit found = Unit {0}
