use Rattle.std.proofs.Common.{length}
use Rattle.cd_operations.proofs.DigitsRead.{IsReading}
use Rattle.cd_operations.proofs.spelling.value_of.Given as goal

abbrev pub invariant-loop-c : goal.invariant-loop-c
invariant-loop-c l = IsReading l.fn.text l.value l.left

abbrev pub decreases-loop-c : goal.decreases-loop-c
decreases-loop-c l = length l.left
