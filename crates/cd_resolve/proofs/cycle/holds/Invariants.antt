use Rattle.std.proofs.Common.{◌≡◌, map, drop}
use Rattle.cd_resolve.specs.Inner.Cycles.{is_held}
use Rattle.cd_resolve.specs.Inner.PlainFound.{plain_id}
use Rattle.cd_resolve.proofs.cycle.holds.Given as goal

abbrev pub invariant-loop-other : goal.invariant-loop-other
invariant-loop-other l = is_held (map plain_id (drop l.other-index l.ids)) (plain_id l.id)
    ≡ is_held (map plain_id l.ids) (plain_id l.id)
