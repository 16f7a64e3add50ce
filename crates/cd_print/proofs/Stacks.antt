-- A stack of tasks with one more.
use Rattle.std.proofs.Common.{◌≡◌, List, [], ◌∷◌, ◌++◌, append-nil, append_assoc, sym, ap, ◌∙◌}
use Rattle.cd_cells.specs.declared.values.Values.{Values}
use Rattle.cd_print.specs.declared.task.Task.{Task}
use Rattle.cd_print.specs.Inner.Tasks.{task_text, stack_text}

pub stack_push : (values : Values) (tasks : List Task) (task : Task)
    → stack_text values (tasks ++ task ∷ []) ≡ task_text values task ++ stack_text values tasks
stack_push values [] task = sym (append-nil (task_text values task))
stack_push values (first ∷ tasks) task =
    ap (λ text. text ++ task_text values first) (stack_push values tasks task)
    ∙ append_assoc (task_text values task) (stack_text values tasks) (task_text values first)
