use Rattle.std.proofs.Common.{◌≡◌, ◌++◌, drop, map}
use Rattle.cd_check.specs.Inner.Divided.{accepted_root}
use Rattle.cd_check.proofs.sites.accepted_of.Given as goal

-- the nodes so far, and those of the rest, are those of all
abbrev pub invariant-loop-sited : goal.invariant-loop-sited
invariant-loop-sited l = l.ids.items ++ map accepted_root (drop l.sited-index l.sites) ≡ map accepted_root l.sites
