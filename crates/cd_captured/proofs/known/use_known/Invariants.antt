use Rattle.std.proofs.Common.{◌≡◌, ◌-◌, length}
use Rattle.cd_empty.specs.Growth.{Grows}
use Rattle.cd_empty.specs.Seen.{graph_of}
use Rattle.cd_captured.specs.Inner.Known.{StandFor}
use Rattle.cd_captured.proofs.known.use_known.Given as goal

-- what was put so far stands for the nodes at first, and the graph stays
abbrev pub invariant-loop-one : goal.invariant-loop-one
invariant-loop-one l = record {
  stand : StandFor (graph_of l.fn.world) l.fn.captured.items l.captured.items;
  graph : graph_of l.world ≡ graph_of l.fn.world;
  grows : Grows l.fn.world l.world;
}

abbrev pub decreases-loop-one : goal.decreases-loop-one
decreases-loop-one l = length l.captured.items - l.variable
