use Rattle.std.proofs.Common.{◌≡◌, ◌++◌, drop, map}
use Rattle.cd_matching.specs.PlainKernel.{plain_kernel_field}
use Rattle.cd_needs.specs.RecordTypes.{plain_row}
use Rattle.cd_filter.specs.Table.{row_steps}
use Rattle.cd_explored.specs.Inner.FieldRows.{asked_fields}
use Rattle.cd_explored.specs.Inner.PlainSteps.{all_steps}
use Rattle.cd_explored.proofs.records.lead_to_fields.Given as goal

-- the steps so far, and those of the rows that are left, are all
abbrev pub invariant-loop-row : goal.invariant-loop-row
invariant-loop-row l = all_steps l.leads.items
    ++ row_steps (map plain_kernel_field l.fields)
    (map (asked_fields (map plain_kernel_field l.fields)) (map plain_row (drop l.row-index l.rows)))
    ≡ row_steps (map plain_kernel_field l.fields)
    (map (asked_fields (map plain_kernel_field l.fields)) (map plain_row l.rows))
