use Rattle.std.proofs.Common.{◌≡◌, ◌++◌, drop}
use Rattle.cd_needs.specs.RecordType.{record_types}
use Rattle.cd_rows.specs.Inner.PlainClauses.{plain_types}
use Rattle.cd_rows.proofs.of_records.copies.Given as goal

-- the types so far, and those that are left, are all
abbrev pub invariant-loop-fields : goal.invariant-loop-fields
invariant-loop-fields l = plain_types l.all.items
    ++ record_types (drop l.fields-index l.types) ≡ record_types l.types
