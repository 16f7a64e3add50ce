use Rattle.cd_machine.specs.Inner.CodeIn.{code_in}
use Rattle.cd_machine.specs.Inner.InOrder.{IsAfter}
use Rattle.cd_machine.specs.Inner.PlainFrame.{plain_control, plain_frames}
use Rattle.cd_machine.specs.Inner.Running.{IsRunning, Leads, left_to_do}
use Rattle.cd_machine.proofs.machine.Machine.to_unit.Given as goal

-- what was at hand leads to what is at hand
abbrev pub invariant-free : goal.invariant-free
invariant-free l = record {
  running : IsRunning l.code l.values l.self.environments l.control l.self.stack;
  after : IsAfter l.fn.code l.fn.values l.fn.self.environments l.code l.values l.self.environments;
  leads : Leads (code_in l.fn.code) (plain_control l.fn.values l.fn.self.environments l.fn.control)
      (plain_frames l.fn.values l.fn.self.environments l.fn.self.stack) (plain_control l.values l.self.environments l.control)
      (plain_frames l.values l.self.environments l.self.stack);
}

abbrev pub decreases-free : goal.decreases-free
decreases-free l = left_to_do l.values l.self.environments l.control l.self.stack
