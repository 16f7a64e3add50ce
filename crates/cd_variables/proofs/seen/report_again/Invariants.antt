use Rattle.std.proofs.Common.{◌≡◌, map, drop}
use Rattle.cd_variables.specs.FindingVariables.{reported_again}
use Rattle.cd_variables.specs.PlainOccurrences.{plain_occurrence}
use Rattle.cd_resolve.specs.PlainReported.{plain_reported}
use Rattle.cd_variables.proofs.seen.report_again.Given as goal

-- to go on from here gives what the whole gives from the start
abbrev pub invariant-loop-variable : goal.invariant-loop-variable
invariant-loop-variable l =
    reported_again l.seen (map plain_occurrence (drop l.variable-index l.variables)) (map plain_reported l.faults.items)
    ≡ reported_again l.fn.seen (map plain_occurrence l.fn.variables) (map plain_reported l.fn.faults.items)
