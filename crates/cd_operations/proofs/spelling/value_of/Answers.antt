use Rattle.cd_operations.proofs.DigitsRead.{too_wide}
use Rattle.cd_operations.proofs.spelling.value_of.Goals as goal

pub returns-then-value-gt17014118346046923173168730371588410572 : goal.returns-then-value-gt17014118346046923173168730371588410572
returns-then-value-gt17014118346046923173168730371588410572 c =
    too_wide _ _ _ _ _ c.in-Some.ensures c.loop-c.invariant c.if-value-gt17014118346046923173168730371588410572.true
