use Rattle.std.proofs.Common.{◌≡◌, ◌+◌, ◌++◌, drop}
use Rattle.cd_explored.specs.Inner.Plan.{named_from}
use Rattle.cd_captured.proofs.capture.named.Given as goal

-- the names so far, and those that are left, are all
abbrev pub invariant-loop-number : goal.invariant-loop-number
invariant-loop-number l =
    l.named.items ++ named_from (l.first + l.number) (drop l.number l.names) ≡ named_from l.first l.names
