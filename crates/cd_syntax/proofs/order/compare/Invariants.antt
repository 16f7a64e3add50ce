use Rattle.std.proofs.Common.{◌≡◌}
use Rattle.std.specs.Cmp.Lexicographic.{slice_cmp}
use Rattle.std.specs.Ordering.{nat_cmp}
use Rattle.std.specs.Str.{IsUtf8}
use Rattle.cd_syntax.proofs.Comparing.{compared}
use Rattle.cd_syntax.proofs.order.compare.Given as goal

-- what is left of both is in the order of the whole
abbrev pub invariant-loop-c : goal.invariant-loop-c
invariant-loop-c l = IsUtf8 l.c-iterator.rest.now × IsUtf8 l.others.rest.now
    × (compared l.c-iterator.rest.now l.others.rest.now ≡ slice_cmp nat_cmp l.fn.one l.fn.other)
