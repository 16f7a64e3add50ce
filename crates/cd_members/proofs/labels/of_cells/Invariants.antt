use Rattle.std.proofs.Common.{◌≡◌, ◌++◌, map, drop}
use Rattle.cd_needs.specs.RecordTypes.{plain_cell}
use Rattle.cd_members.specs.Inner.RecordFields.{labels, present_fields}
use Rattle.cd_members.proofs.labels.of_cells.Given as goal

-- these, and the labels of what is left, are those of all
abbrev pub invariant-loop-label : goal.invariant-loop-label
invariant-loop-label l =
    l.all.items ++ labels (present_fields (map (λ cell. (cell.0, plain_cell cell.1)) (drop l.label-index l.cells)))
    ≡ labels (present_fields (map (λ cell. (cell.0, plain_cell cell.1)) l.cells))
