use Rattle.std.proofs.Common.{◌≡◌, map, drop}
use Rattle.cd_resolve.specs.Inner.Cycles.{cycles_reported}
use Rattle.cd_resolve.specs.PlainReported.{plain_reported}
use Rattle.cd_resolve.specs.Inner.PlainFound.{plain_link}
use Rattle.cd_resolve.proofs.cycle.report_cycles.Given as goal

abbrev pub invariant-loop-link : goal.invariant-loop-link
invariant-loop-link l = cycles_reported (map plain_link l.links) (map plain_link (drop l.link-index l.links))
    (map plain_reported l.faults.items)
    ≡ cycles_reported (map plain_link l.links) (map plain_link l.links) (map plain_reported l.fn.faults.items)
