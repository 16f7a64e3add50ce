use Rattle.std.proofs.Common.{map, length}
use Rattle.cd_model.specs.Formula.{IsGraph}
use Rattle.cd_program.specs.PlainExpr.{plain_item}
use Rattle.cd_empty.specs.Growth.{Grows}
use Rattle.cd_empty.specs.Seen.{graph_of}
use Rattle.cd_forms.proofs.ItemsPut.{AreSoFar}
use Rattle.cd_forms.proofs.put_items.put_items.Given as goal

-- the items after those that are left are put
abbrev pub invariant-loop-left : goal.invariant-loop-left
invariant-loop-left l = record {
  so_far : AreSoFar (graph_of l.fn.world) (graph_of l.world) (map plain_item l.items)
      (map plain_item l.left) l.fn.parts.items l.parts.items l.rest;
  sound : IsGraph (graph_of l.world);
  grows : Grows l.fn.world l.world;
}

abbrev pub decreases-loop-left : goal.decreases-loop-left
decreases-loop-left l = length l.left
