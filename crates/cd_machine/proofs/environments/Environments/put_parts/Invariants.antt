use Rattle.std.proofs.Common.{◌≡◌, ◌++◌}
use Rattle.cd_machine.specs.Inner.Nodes.{parts_at}
use Rattle.cd_machine.proofs.environments.Environments.put_parts.Given as goal

-- what was put, before what is left
abbrev pub invariant-loop-node : goal.invariant-loop-node
invariant-loop-node l = l.parts.items ++ parts_at l.self l.number ≡ l.fn.parts.items ++ parts_at l.self l.fn.env.0

abbrev pub decreases-loop-node : goal.decreases-loop-node
decreases-loop-node l = l.number
