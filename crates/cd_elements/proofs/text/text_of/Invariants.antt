use Rattle.std.proofs.Common.{◌≡◌, ◌++◌, length}
use Rattle.cd_elements.specs.Elements.{table}
use Rattle.cd_elements.specs.Inner.Tasks.{tasks_text, text_in}
use Rattle.cd_elements.proofs.text.text_of.Given as goal

-- what is written and what is left are the whole text
abbrev pub invariant-loop-task : goal.invariant-loop-task
invariant-loop-task l = l.output ++ tasks_text (table l.elements) l.tasks ≡ text_in (table l.elements) l.fn.id

-- each step writes a character at least
abbrev pub decreases-loop-task : goal.decreases-loop-task
decreases-loop-task l = length (tasks_text (table l.elements) l.tasks)
