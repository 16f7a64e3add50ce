use Rattle.std.proofs.Common.{◌≡◌, ◌++◌, take}
use Rattle.cd_verdicts.specs.Verdicts.{without_elements}
use Rattle.cd_verdicts.proofs.verdicts.Verdicts.settle_each.Given as goal

-- the first questions are settled
abbrev pub invariant-loop-place : goal.invariant-loop-place
invariant-loop-place l = l.self ≡ l.initial.self ++ without_elements (take l.place l.questions)
