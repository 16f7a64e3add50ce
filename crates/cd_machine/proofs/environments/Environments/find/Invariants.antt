use Rattle.std.proofs.Common.{◌≡◌}
use Rattle.std.specs.Str.{chars}
use Rattle.cd_rules.specs.InRow as row
use Rattle.cd_code.specs.Compiled.{env_of, ArePartsOf}
use Rattle.cd_machine.specs.Inner.Nodes.{parts_at}
use Rattle.cd_machine.proofs.environments.Environments.find.Given as goal

-- the name is looked for in what is left
abbrev pub invariant-loop-node : goal.invariant-loop-node
invariant-loop-node l = record {
  found : row.thing_at (env_of l.values (parts_at l.self l.number)) (chars l.name)
      ≡ row.thing_at (env_of l.values (parts_at l.self l.fn.env.0)) (chars l.name);
  parts : ArePartsOf l.values (parts_at l.self l.number);
}

abbrev pub decreases-loop-node : goal.decreases-loop-node
decreases-loop-node l = l.number
