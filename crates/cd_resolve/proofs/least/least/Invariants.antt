use Rattle.std.proofs.Common.{◌≡◌, map, drop, None}
use Rattle.std.specs.Option.{option_map}
use Rattle.cd_resolve.specs.Least.{least_from}
use Rattle.cd_resolve.specs.PlainReported.{plain_reported}
use Rattle.cd_resolve.proofs.least.least.Given as goal

-- to go on from here gives what the whole gives from the start
abbrev pub invariant-loop-fault : goal.invariant-loop-fault
invariant-loop-fault l =
    least_from (option_map plain_reported l.least) (map plain_reported (drop l.fault-index l.faults))
    ≡ least_from None (map plain_reported l.faults)
