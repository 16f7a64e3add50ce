use Rattle.std.proofs.Common.{◌≡◌, drop, bytes_eq}
use Rattle.std.specs.List.{list_any}
use Rattle.cd_needs.specs.PlainReasons.{plain_labels}
use Rattle.cd_needs.proofs.labels.is_among.Given as goal

-- the label is among what is left where it is among all
abbrev pub invariant-loop-other : goal.invariant-loop-other
invariant-loop-other l = list_any (bytes_eq l.label) (plain_labels (drop l.other-index l.labels))
    ≡ list_any (bytes_eq l.label) (plain_labels l.fn.labels)
