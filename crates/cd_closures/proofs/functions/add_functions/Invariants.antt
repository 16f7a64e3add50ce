use Rattle.std.proofs.Common.{◌≡◌, map, drop}
use Rattle.cd_model.specs.AllOf.{AllOf}
use Rattle.cd_model.specs.Scope.{Scope}
use Rattle.cd_empty.specs.Growth.{Grows}
use Rattle.cd_empty.specs.Seen.{graph_of}
use Rattle.cd_resolved.specs.Resolved.{function_of}
use Rattle.cd_closures.specs.Inner.Ready.{AddsFunctions}
use Rattle.cd_closures.specs.Inner.Tables.{UnlistedHaveNone}
use Rattle.cd_closures.specs.Inner.Wholes.{HasWhole}
use Rattle.cd_closures.proofs.functions.add_functions.Given as goal

-- the table has the functions so far
abbrev pub invariant-loop-function : goal.invariant-loop-function
invariant-loop-function l = record {
  table : (scope : Scope) → AllOf (HasWhole scope (graph_of l.fn.world)) l.functions
      → AddsFunctions (graph_of l.fn.world) scope l.asked (map function_of l.functions)
      (map function_of (drop l.function-index l.functions)) l.fn.maps l.maps;
  none : UnlistedHaveNone l.maps;
  graph : graph_of l.world ≡ graph_of l.fn.world;
  grows : Grows l.fn.world l.world;
}
