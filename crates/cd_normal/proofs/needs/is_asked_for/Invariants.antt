use Rattle.std.proofs.Common.{◌≡◌, drop, not}
use Rattle.std.specs.List.{list_any}
use Rattle.cd_needs.specs.RecordType.{record_types}
use Rattle.cd_rules.specs.Rows.{field_at}
use Rattle.cd_normal.proofs.needs.is_asked_for.Given as goal

-- one of the types asks for the field where one of those that are left does
abbrev pub invariant-loop-fields : goal.invariant-loop-fields
invariant-loop-fields l = list_any (λ type. not (field_at type l.label).optional) (record_types (drop l.fields-index l.types))
    ≡ list_any (λ type. not (field_at type l.label).optional) (record_types l.fn.types)
