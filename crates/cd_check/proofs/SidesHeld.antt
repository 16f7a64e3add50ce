-- What holds a side in a longer graph holds it in the graph in which it was made.
use Rattle.std.proofs.Common.{Bool, Option, Some, None}
use Rattle.cd_sets.specs.declared.node_id.NodeId.{NodeId}
use Rattle.cd_model.specs.Formula.{Graph, IsGraph}
use Rattle.cd_model.specs.Scope.{Scope}
use Rattle.cd_program.specs.Expr.{Expr}
use Rattle.cd_meaning.specs.Sets.{Set, elements_of}
use Rattle.cd_typing.specs.Later.{IsLater}
use Rattle.cd_typing.proofs.Later.{later_in}
use Rattle.cd_typing.proofs.Subsets.{through}
use Rattle.cd_check.specs.Inner.Environment.{Nodes}
use Rattle.cd_check.specs.Inner.Sides.{HoldsSome}
use Rattle.cd_check.proofs.Tests.{Side}

pub holds_earlier : (scope : Scope) (nodes : Nodes) (graph : Graph) (tested : Set) (value : Bool) (e : Expr) (middle later last : Graph)
    → IsLater middle later → IsGraph middle → (found : Option NodeId) → Side scope nodes graph tested value e middle found
    → (result : NodeId) → HoldsSome later last found result → HoldsSome middle last found result
holds_earlier scope nodes graph tested value e middle later last is sound None side result holds = tt
holds_earlier scope nodes graph tested value e middle later last is sound (Some id) side result holds =
    through (elements_of middle id) (elements_of later id) (elements_of last result) (later_in middle later is sound id side.is_type.is_node) holds
