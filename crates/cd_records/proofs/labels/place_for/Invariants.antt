use Rattle.std.proofs.Common.{◌≡◌, ◌++◌, take, drop}
use Rattle.cd_needs.specs.PlainReasons.{plain_labels}
use Rattle.cd_records.specs.Inner.Labels.{inserted}
use Rattle.cd_records.proofs.labels.place_for.Given as goal

-- the label belongs among what is left
abbrev pub invariant-loop-index : goal.invariant-loop-index
invariant-loop-index l = inserted l.label (plain_labels l.labels)
    ≡ plain_labels (take l.index l.labels) ++ inserted l.label (plain_labels (drop l.index l.labels))
