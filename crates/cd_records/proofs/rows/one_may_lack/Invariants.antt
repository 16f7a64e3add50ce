use Rattle.std.proofs.Common.{◌≡◌, drop, map}
use Rattle.cd_needs.specs.RecordTypes.{plain_row}
use Rattle.cd_records.specs.Inner.Saying.{one_may_lack}
use Rattle.cd_records.proofs.rows.one_may_lack.Given as goal

-- one of them may lack it if one of those that are left may
abbrev pub invariant-loop-row : goal.invariant-loop-row
invariant-loop-row l = one_may_lack (map plain_row (drop l.row-index l.rows)) l.label
    ≡ one_may_lack (map plain_row l.rows) l.label
