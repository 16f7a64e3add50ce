use Rattle.std.proofs.Common.{◌≡◌, ◌≤◌, drop, length}
use Rattle.cd_needs.specs.RecordType.{record_types}
use Rattle.cd_needs.specs.Inner.LabelsBefore.{labels_before}
use Rattle.cd_needs.specs.PlainReasons.{plain_labels}
use Rattle.cd_needs.proofs.labels.with_types.Given as goal

-- the labels are those of the types from the index on, before the first ones
abbrev pub invariant-loop-index : goal.invariant-loop-index
invariant-loop-index l = (l.index ≤ length l.types)
    × (plain_labels l.all.items ≡ labels_before (record_types (drop l.index l.types)) (plain_labels l.fn.labels.items))

abbrev pub decreases-loop-index : goal.decreases-loop-index
decreases-loop-index l = l.index
