use Rattle.std.proofs.Common.{◌≡◌, map, drop}
use Rattle.cd_resolve.specs.Inner.Cycles.{with_next}
use Rattle.cd_resolve.specs.Inner.PlainFound.{plain_id, plain_link}
use Rattle.cd_resolve.proofs.cycle.add_next.Given as goal

abbrev pub invariant-loop-link : goal.invariant-loop-link
invariant-loop-link l = with_next (map plain_link (drop l.link-index l.links)) (plain_id l.id)
    (map plain_id l.seen.items) ≡ with_next (map plain_link l.links) (plain_id l.id) (map plain_id l.fn.seen.items)
