use Rattle.std.proofs.Common.{◌≡◌, map}
use Rattle.cd_resolve.specs.Inner.Cycles.{reached_after}
use Rattle.cd_resolve.specs.Inner.PlainFound.{plain_id, plain_link}
use Rattle.cd_resolve.proofs.cycle.reached.Given as goal

abbrev pub invariant-loop-index : goal.invariant-loop-index
invariant-loop-index l = map plain_id l.seen.items ≡ reached_after l.index (map plain_link l.links) (plain_id l.id)
