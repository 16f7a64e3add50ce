use Rattle.std.proofs.Common.{◌≡◌, ◌++◌, length}
use Rattle.cd_print.specs.Inner.Texts.{text_at}
use Rattle.cd_print.specs.Inner.Tasks.{tasks_text}
use Rattle.cd_print.proofs.print.print_value.Given as goal

-- what is written and what is left are the whole text
abbrev pub invariant-loop-task : goal.invariant-loop-task
invariant-loop-task l = l.output ++ tasks_text l.values l.tasks ≡ text_at l.values l.fn.id

-- each step writes a character at least
abbrev pub decreases-loop-task : goal.decreases-loop-task
decreases-loop-task l = length (tasks_text l.values l.tasks)
