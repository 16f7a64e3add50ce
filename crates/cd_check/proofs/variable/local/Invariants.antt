use Rattle.std.proofs.Common.{◌≡◌, drop}
use Rattle.cd_check.specs.Inner.Environment.{node_at}
use Rattle.cd_check.proofs.variable.local.Given as goal

-- it stands among those that are left, if it does at all
abbrev pub invariant-loop-other : goal.invariant-loop-other
invariant-loop-other l = node_at l.locals l.name ≡ node_at (drop l.other-index l.locals) l.name
