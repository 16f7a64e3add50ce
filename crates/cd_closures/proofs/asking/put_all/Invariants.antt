use Rattle.std.proofs.Common.{◌≡◌, length, map, take}
use Rattle.cd_model.specs.AllOf.{AllOf}
use Rattle.cd_model.specs.Formula.{IsGraph}
use Rattle.cd_empty.specs.Growth.{Grows}
use Rattle.cd_empty.specs.Seen.{graph_of}
use Rattle.cd_closures.specs.Inner.Asked.{IsAsked, IsBelow}
use Rattle.cd_closures.proofs.asking.put_all.Given as goal

-- there are nodes of the arrows so far
abbrev pub invariant-loop-arrow : goal.invariant-loop-arrow
invariant-loop-arrow l = record {
  arrows : map (λ one. one.arrow) l.all.items ≡ take l.arrow-index l.arrows;
  asked : AllOf (IsAsked (graph_of l.world)) l.all.items;
  below : AllOf (IsBelow (length (graph_of l.world))) l.arrows;
  sound : IsGraph (graph_of l.world);
  grows : Grows l.fn.world l.world;
}
