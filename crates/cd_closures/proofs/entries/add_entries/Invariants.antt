use Rattle.std.proofs.Common.{◌≡◌, take}
use Rattle.cd_empty.specs.Growth.{Grows}
use Rattle.cd_empty.specs.Seen.{graph_of}
use Rattle.cd_closures.specs.Inner.Entries.{AreAdded}
use Rattle.cd_closures.proofs.entries.add_entries.Given as goal

-- the arrows so far are decided
abbrev pub invariant-loop-one : goal.invariant-loop-one
invariant-loop-one l = record {
  added : AreAdded (graph_of l.fn.world) l.whole l.function (take l.one-index l.asked) l.fn.maps l.maps;
  graph : graph_of l.world ≡ graph_of l.fn.world;
  grows : Grows l.fn.world l.world;
}
