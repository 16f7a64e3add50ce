use Rattle.std.proofs.Common.{◌≡◌, drop}
use Rattle.std.specs.Ordering.{nat_cmp}
use Rattle.std.specs.Cmp.Lexicographic.{slice_cmp}
use Rattle.cd_tables.specs.Spelling.{spelled}
use Rattle.cd_tables.proofs.spelling.compare.Given as goal

-- what is left of both compares as they do
abbrev pub invariant-loop-byte : goal.invariant-loop-byte
invariant-loop-byte l =
    slice_cmp nat_cmp (spelled (drop l.byte-index l.field)) l.rest ≡ slice_cmp nat_cmp (spelled l.field) l.fn.word
