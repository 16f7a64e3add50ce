use Rattle.std.proofs.Common.{◌≤◌}
use Rattle.cd_machine.specs.Inner.CodeIn.{code_in}
use Rattle.cd_machine.specs.Inner.InOrder.{IsAfter}
use Rattle.cd_machine.specs.Inner.Running.{IsRunning, plain_state}
use Rattle.cd_machine.proofs.MachineRuns.{Kept}
use Rattle.cd_machine.proofs.machine.Machine.go.Given as goal

-- what was at hand goes on to what is at hand, with the units that are left
abbrev pub invariant-units : goal.invariant-units
invariant-units l = record {
  running : IsRunning l.code l.values l.self.environments l.control l.self.stack;
  after : IsAfter l.fn.code l.fn.values l.fn.self.environments l.code l.values l.self.environments;
  fewer : l.units ≤ l.fn.units;
  kept : Kept (code_in l.fn.code) (plain_state l.fn.values l.fn.self.environments l.fn.control l.fn.units l.fn.self.stack) l.fn.units
      (plain_state l.values l.self.environments l.control l.units l.self.stack);
}

abbrev pub decreases-units : goal.decreases-units
decreases-units l = l.units
