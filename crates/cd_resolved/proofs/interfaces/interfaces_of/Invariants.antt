use Rattle.std.proofs.Common.{◌≡◌, [], ◌∷◌, ◌++◌, map, drop}
use Rattle.cd_model.specs.AllOf.{AllOf}
use Rattle.cd_model.specs.Formula.{IsGraph}
use Rattle.cd_graph.specs.Nodes.{nodes}
use Rattle.cd_resolve.specs.Named.{AreNamed, plain_names, declared_by}
use Rattle.cd_resolved.specs.Resolved.{HasNodes, function_of}
use Rattle.cd_resolved.specs.Inner.PlainParts.{functions_of}
use Rattle.cd_resolved.specs.Inner.SoundInterfaces.{HasSoundInterface}
use Rattle.cd_resolved.proofs.GraphsGrow.{Grows}
use Rattle.cd_resolved.proofs.interfaces.interfaces_of.Given as goal

-- those before have nodes
abbrev pub invariant-loop-function : goal.invariant-loop-function
invariant-loop-function l = record {
  interfaces : AllOf (HasNodes (declared_by l.names ∷ []) (nodes l.graph)) l.all.items;
  functions : map function_of l.all.items ++ functions_of (drop l.function-index l.functions) ≡ functions_of l.fn.functions;
  left : AllOf (HasSoundInterface (declared_by l.names)) (functions_of (drop l.function-index l.functions));
  sound : IsGraph (nodes l.graph);
  named : AreNamed (nodes l.graph) (plain_names l.names);
  grows : Grows (nodes l.fn.graph) (nodes l.graph);
}
