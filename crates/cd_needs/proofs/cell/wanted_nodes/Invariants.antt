use Rattle.std.proofs.Common.{◌≡◌, ◌++◌, map, drop}
use Rattle.cd_rules.specs.Rows.{field_at}
use Rattle.cd_needs.specs.RecordType.{record_types}
use Rattle.cd_needs.proofs.cell.wanted_nodes.Given as goal

-- the nodes so far, and those of the types that are left, are all
abbrev pub invariant-loop-fields : goal.invariant-loop-fields
invariant-loop-fields l =
    l.nodes.items ++ map (λ type. (field_at type l.label).type) (record_types (drop l.fields-index l.wanted))
    ≡ map (λ type. (field_at type l.label).type) (record_types l.fn.wanted)
