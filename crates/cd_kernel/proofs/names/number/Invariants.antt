use Rattle.std.proofs.Common.{◌≡◌, ◌+◌, drop}
use Rattle.std.specs.Prelude.{option_map}
use Rattle.cd_matching.specs.Kernel.{number_of}
use Rattle.cd_kernel.proofs.names.number.Given as goal

-- the number is that among those that are left, after those that were gone over
abbrev pub invariant-loop-number : goal.invariant-loop-number
invariant-loop-number l = number_of l.variables l.name
    ≡ option_map (l.number +◌) (number_of (drop l.number l.variables) l.name)
