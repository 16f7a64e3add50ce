use Rattle.std.proofs.Common.{◌≡◌, ◌≤◌, length, map}
use Rattle.cd_model.specs.Formula.{IsGraph}
use Rattle.cd_graph.specs.PlainFormula.{plain}
use Rattle.cd_empty.specs.Growth.{Grows}
use Rattle.cd_empty.specs.Seen.{graph_of}
use Rattle.cd_sites.specs.Inner.Differences.{AreLeft}
use Rattle.cd_sites.proofs.rest.left_of_each.Given as goal

-- the graph stays, and what is left of the nodes so far is known
abbrev pub invariant-loop-number : goal.invariant-loop-number
invariant-loop-number l = record {
  graph : graph_of l.world ≡ graph_of l.fn.world;
  sound : IsGraph (graph_of l.world);
  grows : Grows l.fn.world l.world;
  end : l.number-end ≡ length (graph_of l.fn.world);
  least : l.fn.first.0 ≤ l.number;
  most : l.number ≤ length (graph_of l.fn.world);
  left : AreLeft (graph_of l.fn.world) l.other l.fn.first.0 l.number (map plain l.left.items);
}
