use Rattle.std.proofs.Common.{◌≡◌, take}
use Rattle.cd_model.specs.AllOf.{AllOf}
use Rattle.cd_empty.specs.Growth.{Grows}
use Rattle.cd_empty.specs.Seen.{graph_of}
use Rattle.cd_apply.specs.Inner.Results.{CanRefuse}
use Rattle.cd_apply.proofs.refusing.has_function.Given as goal

-- each of the first arrows can be refused
abbrev pub invariant-loop-refused : goal.invariant-loop-refused
invariant-loop-refused l = record {
  each : AllOf (CanRefuse (graph_of l.fn.world) l.clause.wanted.value.items)
      (take l.refused-index l.refused-items);
  graph : graph_of l.world ≡ graph_of l.fn.world;
  grows : Grows l.fn.world l.world;
}
