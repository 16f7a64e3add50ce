use Rattle.std.proofs.Common.{◌≡◌, ◌∷◌, ◌++◌, drop}
use Rattle.cd_rows.proofs.cut.with_first.Given as goal

-- the questions so far, and those that are left, are all
abbrev pub invariant-loop-other : goal.invariant-loop-other
invariant-loop-other l = l.all.items ++ drop l.other-index l.others ≡ l.fn.first ∷ l.others
