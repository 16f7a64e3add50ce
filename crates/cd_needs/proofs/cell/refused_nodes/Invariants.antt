use Rattle.std.proofs.Common.{◌≡◌, ◌++◌, map, drop}
use Rattle.cd_rules.specs.Rows.{field_at, types_at}
use Rattle.cd_needs.specs.PlainReasons.{plain_reasons}
use Rattle.cd_needs.proofs.cell.refused_nodes.Given as goal

-- the nodes so far, and those of the types that are left, are all
abbrev pub invariant-loop-chosen : goal.invariant-loop-chosen
invariant-loop-chosen l =
    l.nodes.items ++ map (λ type. (field_at type l.label).type)
    (types_at l.label (plain_reasons (drop l.chosen-index l.reasons)))
    ≡ map (λ type. (field_at type l.label).type) (types_at l.label (plain_reasons l.fn.reasons))
