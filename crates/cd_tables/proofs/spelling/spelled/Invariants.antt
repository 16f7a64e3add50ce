use Rattle.std.proofs.Common.{◌≡◌, ◌++◌, take, drop}
use Rattle.cd_tables.specs.Spelling.{spelled as spelled_in}
use Rattle.cd_tables.proofs.spelling.spelled.Given as goal

-- the bytes so far, and what is left spells, are what the field spells
abbrev pub invariant-loop-length : goal.invariant-loop-length
invariant-loop-length l = (take l.length l.field ++ spelled_in (drop l.length l.field)) ≡ spelled_in l.field
