use Rattle.std.proofs.Common.{◌≡◌, map, drop}
use Rattle.std.specs.List.{list_all}
use Rattle.cd_variables.specs.FindingVariables.{has_name}
use Rattle.cd_variables.proofs.name_set.are_within.Given as goal

-- those that are left are as all are
abbrev pub invariant-loop-name : goal.invariant-loop-name
invariant-loop-name l =
    list_all (has_name l.others) (map (λ name. name.now) (drop l.name-index l.names))
    ≡ list_all (has_name l.fn.others) (map (λ name. name.now) l.fn.names)
