use Rattle.std.proofs.Common.{◌≡◌, ◌++◌, map, drop}
use Rattle.cd_variables.specs.FindingVariables.{names_among, HaveSameNames}
use Rattle.cd_variables.specs.PlainOccurrences.{plain_occurrence}
use Rattle.cd_variables.proofs.name_set.collect.Given as goal

-- those that were added, and those that are left, are all
abbrev pub invariant-loop-variable : goal.invariant-loop-variable
invariant-loop-variable l =
    (l.index ++ names_among (map plain_occurrence (drop l.variable-index l.variables))
    ≡ l.fn.index ++ names_among (map plain_occurrence l.fn.variables))
    × HaveSameNames (map (λ name. name.now) l.distinct.items) l.index
