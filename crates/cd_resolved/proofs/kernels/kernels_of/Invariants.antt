use Rattle.std.proofs.Common.{◌≡◌, [], ◌∷◌, ◌++◌, map, drop}
use Rattle.cd_model.specs.AllOf.{AllOf}
use Rattle.cd_model.specs.Formula.{IsGraph}
use Rattle.cd_graph.specs.Nodes.{nodes}
use Rattle.cd_resolve.specs.Named.{AreNamed, plain_names, declared_by}
use Rattle.cd_resolved.specs.Resolved.{HasKernel, pattern_of}
use Rattle.cd_resolved.specs.Inner.PlainParts.{trees_of}
use Rattle.cd_resolved.specs.Inner.SoundPatterns.{IsSoundPattern}
use Rattle.cd_resolved.proofs.GraphsGrow.{Grows}
use Rattle.cd_resolved.proofs.kernels.kernels_of.Given as goal

-- those before have kernels
abbrev pub invariant-loop-pattern : goal.invariant-loop-pattern
invariant-loop-pattern l = record {
  kernels : AllOf (HasKernel (declared_by l.names ∷ []) (nodes l.graph)) l.kernels.items;
  patterns : map pattern_of l.kernels.items ++ trees_of (drop l.pattern-index l.patterns) ≡ trees_of l.fn.patterns;
  left : AllOf (IsSoundPattern (declared_by l.names)) (trees_of (drop l.pattern-index l.patterns));
  sound : IsGraph (nodes l.graph);
  named : AreNamed (nodes l.graph) (plain_names l.names);
  grows : Grows (nodes l.fn.graph) (nodes l.graph);
}
