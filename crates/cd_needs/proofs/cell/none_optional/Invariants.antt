use Rattle.std.proofs.Common.{◌≡◌, drop, not}
use Rattle.std.specs.List.{list_all}
use Rattle.cd_rules.specs.Rows.{field_at, types_at}
use Rattle.cd_needs.specs.PlainReasons.{plain_reasons}
use Rattle.cd_needs.proofs.cell.none_optional.Given as goal

-- none of the types lets the field be absent where none of those that are left does
abbrev pub invariant-loop-chosen : goal.invariant-loop-chosen
invariant-loop-chosen l =
    list_all (λ type. not (field_at type l.label).optional)
    (types_at l.label (plain_reasons (drop l.chosen-index l.reasons)))
    ≡ list_all (λ type. not (field_at type l.label).optional) (types_at l.label (plain_reasons l.fn.reasons))
