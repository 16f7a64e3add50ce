-- Kernels of written patterns.
use Rattle.std.specs.Prelude.{◌<◌, length}
use Rattle.cd_sets.specs.declared.node_id.NodeId.{NodeId}
use Rattle.cd_syntax.specs.TypeTree.{Tree}
use Rattle.cd_model.specs.Formula.{Graph}
use Rattle.cd_model.specs.Scope.{Scope}
use Rattle.cd_matching.specs.Kernel.{Kernel, IsSound}
use Rattle.cd_matching.specs.Naming.{IsNamed}
use Rattle.cd_matching.specs.Pattern.{Pattern}
use Rattle.cd_matching.specs.Takes.{IsResolved}
use Rattle.cd_matching.specs.WrittenPattern.{pattern_of}
use Rattle.cd_kernel.specs.Making.{TakesAlike}
use Rattle.cd_safety.specs.PatternConstants.{EachConstant, IsSoundConstant}

-- it takes what a pattern takes that is the written one, over nodes of the graph
pub record IsKernelOf (graph : Graph) (scope : Scope) (written : Tree) (kernel : Kernel NodeId)
    : Type 0 where
  pub p : Pattern NodeId
  pub resolved : IsResolved graph p scope written
  pub named : IsNamed (pattern_of scope written)
  pub alike : TakesAlike p kernel
  pub sound : IsSound (λ id. id.0 < length graph) kernel
  pub constants : EachConstant IsSoundConstant (pattern_of scope written)
