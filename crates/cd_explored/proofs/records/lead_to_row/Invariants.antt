use Rattle.std.proofs.Common.{◌≡◌, ◌++◌, drop, map}
use Rattle.cd_matching.specs.PlainKernel.{plain_kernel_field}
use Rattle.cd_needs.specs.RecordTypes.{plain_row}
use Rattle.cd_filter.specs.Table.{cell_steps}
use Rattle.cd_explored.specs.Inner.FieldRows.{asked_fields}
use Rattle.cd_explored.specs.Inner.PlainSteps.{all_steps}
use Rattle.cd_explored.proofs.records.lead_to_row.Given as goal

-- the steps so far, and those of the fields that are left, are all
abbrev pub invariant-loop-field : goal.invariant-loop-field
invariant-loop-field l = all_steps l.leads.items
    ++ cell_steps (map plain_kernel_field (drop l.field-index l.fields))
    (asked_fields (map plain_kernel_field (drop l.field-index l.fields)) (plain_row l.row))
    ≡ all_steps l.fn.leads.items ++ cell_steps (map plain_kernel_field l.fields)
    (asked_fields (map plain_kernel_field l.fields) (plain_row l.row))
