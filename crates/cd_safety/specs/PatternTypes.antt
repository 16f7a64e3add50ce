-- Patterns whose types are nodes of a graph; and one graph for several.
use Rattle.std.specs.Prelude.{◌≡◌, ◌<◌, ◌++◌, List, length}
use Rattle.cd_sets.specs.declared.node_id.NodeId.{NodeId}
use Rattle.cd_syntax.specs.TypeTree.{Tree}
use Rattle.cd_model.specs.AllOf.{AllOf}
use Rattle.cd_model.specs.BuiltIns.{built_ins}
use Rattle.cd_model.specs.Formula.{Graph, IsGraph}
use Rattle.cd_model.specs.Scope.{Scope}
use Rattle.cd_matching.specs.Pattern.{Pattern}
use Rattle.cd_matching.specs.Takes.{IsResolved}
use Rattle.cd_matching.specs.WrittenPattern.{pattern_of}
use Rattle.cd_program.specs.Expr.{Branches, NoBranch, ABranch}
use Rattle.cd_typing.specs.Typ.{typ}
use Rattle.cd_safety.specs.HoldsAs.{HoldsAs}
use Rattle.cd_safety.specs.PatternConstants.{EachConstant, IsSoundConstant}

-- its types are nodes of a sound graph, and its constants are values
pub record IsTypedPattern (scope : Scope) (written : Tree) : Type 0 where
  pub graph : Graph
  pub sound : IsGraph graph
  pub p : Pattern NodeId
  pub resolved : IsResolved graph p scope written
  pub constants : EachConstant IsSoundConstant (pattern_of scope written)

-- and so for the pattern of each branch
abbrev pub AreTypedPatterns : Scope → Branches → Type 0
AreTypedPatterns scope NoBranch = Unit {0}
AreTypedPatterns scope (ABranch pattern body rest) =
    IsTypedPattern scope pattern × AreTypedPatterns scope rest

-- a graph that has a node for each node of another one
abbrev pub HasNodesOf : (graph other : Graph) → Type 0
HasNodesOf graph other = (id : NodeId) → id.0 < length other
    → (node : NodeId) × HoldsAs graph node (typ other id)

-- a graph that has nodes for those of each of these
pub record HasNodesOfAll (graphs : List Graph) : Type 0 where
  pub graph : Graph
  pub more : Graph
  pub begins : graph ≡ built_ins ++ more
  pub sound : IsGraph graph
  pub nodes : AllOf (HasNodesOf graph) graphs
