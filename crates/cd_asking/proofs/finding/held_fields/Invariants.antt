use Rattle.std.proofs.Common.{◌≡◌, ◌++◌, map, drop}
use Rattle.cd_cells.specs.Table.{names}
use Rattle.cd_asking.specs.Inner.Tasks.{answered}
use Rattle.cd_asking.specs.Inner.Asked.{done_by, held}
use Rattle.cd_asking.proofs.finding.held_fields.Given as goal

-- those so far, and those that are left
abbrev pub invariant-loop-field : goal.invariant-loop-field
invariant-loop-field l =
    map held l.fields.items ++ answered (map (done_by (names l.values) l.sets) (drop l.field-index l.done))
    ≡ answered (map (done_by (names l.values) l.sets) l.done)
