use Rattle.std.proofs.Common.{◌≡◌, drop}
use Rattle.std.specs.List.{list_all}
use Rattle.cd_rules.specs.Rows.{field_at}
use Rattle.cd_needs.specs.RecordType.{record_types}
use Rattle.cd_needs.proofs.cell.all_optional.Given as goal

-- all types let the field be absent where those that are left do
abbrev pub invariant-loop-fields : goal.invariant-loop-fields
invariant-loop-fields l = list_all (λ type. (field_at type l.label).optional) (record_types (drop l.fields-index l.wanted))
    ≡ list_all (λ type. (field_at type l.label).optional) (record_types l.fn.wanted)
