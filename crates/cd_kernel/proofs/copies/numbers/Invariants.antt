use Rattle.std.proofs.Common.{◌≡◌, ◌++◌, drop, map}
use Rattle.cd_kernel.specs.Inner.Gathering.{numbered}
use Rattle.cd_kernel.proofs.copies.numbers.Given as goal

-- those that were gone over, and those that are left
abbrev pub invariant-loop-name : goal.invariant-loop-name
invariant-loop-name l = l.numbers.items ++ map (numbered l.variables) (drop l.name-index l.names)
    ≡ map (numbered l.variables) l.names
