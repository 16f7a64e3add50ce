use Rattle.std.proofs.Common.{◌≡◌, ◌++◌, drop, map}
use Rattle.cd_graph.specs.PlainFormula.{plain_named}
use Rattle.cd_records.specs.Inner.Plain.{plain_said}
use Rattle.cd_records.specs.Inner.Standing.{open_fields}
use Rattle.cd_records.proofs.record_type.open_fields.Given as goal

-- the fields so far, and those of the entries that are left, are all
abbrev pub invariant-loop-one : goal.invariant-loop-one
invariant-loop-one l = plain_named l.named.items
    ++ open_fields (map plain_said (drop l.one-index l.said))
    ≡ open_fields (map plain_said l.said)
