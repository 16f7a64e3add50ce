use Rattle.std.proofs.Common.{◌≡◌, [], map}
use Rattle.cd_resolve.specs.Inner.Search.{AllSeen, IsSound}
use Rattle.cd_resolve.proofs.ordering.order.Given as goal

-- none is open, and all numbers that were begun with are seen
abbrev pub invariant-loop-number : goal.invariant-loop-number
invariant-loop-number l = record {
  none : l.search.frames.items ≡ [];
  sound : IsSound (map (λ row. row.items) l.links) l.search.seen.items [] l.search.order.items;
  all : AllSeen l.search.seen.items l.number;
}
