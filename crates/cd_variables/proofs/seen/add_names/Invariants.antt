use Rattle.std.proofs.Common.{◌≡◌, ◌++◌, map, drop}
use Rattle.cd_variables.specs.FindingVariables.{names_among}
use Rattle.cd_variables.specs.PlainOccurrences.{plain_occurrence}
use Rattle.cd_variables.proofs.seen.add_names.Given as goal

-- those that were added, and those that are left, are all
abbrev pub invariant-loop-variable : goal.invariant-loop-variable
invariant-loop-variable l =
    l.names ++ names_among (map plain_occurrence (drop l.variable-index l.variables))
    ≡ l.fn.names ++ names_among (map plain_occurrence l.fn.variables)
