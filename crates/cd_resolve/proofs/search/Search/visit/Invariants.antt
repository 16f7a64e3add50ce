use Rattle.std.proofs.Common.{map, reverse}
use Rattle.cd_resolve.specs.Inner.Search.{IsSeen, AreKept, IsSound, steps}
use Rattle.cd_resolve.proofs.search.Search.visit.Given as goal

-- the search is sound, and has seen the number and all that it had seen
abbrev pub invariant-loop-frame : goal.invariant-loop-frame
invariant-loop-frame l = record {
  sound : IsSound (map (λ row. row.items) l.links) l.self.seen.items (reverse l.self.frames.items) l.self.order.items;
  seen : IsSeen l.self.seen.items l.number;
  kept : AreKept l.fn.self.seen.items l.self.seen.items;
}

abbrev pub decreases-loop-frame : goal.decreases-loop-frame
decreases-loop-frame l = steps (map (λ row. row.items) l.links) l.self.seen.items (reverse l.self.frames.items)
