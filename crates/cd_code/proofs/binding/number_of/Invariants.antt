use Rattle.std.proofs.Common.{◌≡◌}
use Rattle.cd_matching.specs.Kernel.{number_of}
use Rattle.cd_code.proofs.VariableNumbers.{number_from}
use Rattle.cd_code.proofs.binding.number_of.Given as goal

-- those before are others
abbrev pub invariant-loop-index : goal.invariant-loop-index
invariant-loop-index l = number_from l.variables l.name l.index ≡ number_of l.fn.variables l.fn.name
