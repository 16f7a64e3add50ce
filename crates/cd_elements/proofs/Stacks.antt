-- A stack of tasks with one more.
use Rattle.std.proofs.Common.{◌≡◌, List, [], ◌∷◌, ◌++◌, append-nil, append_assoc, sym, ap, ◌∙◌}
use Rattle.cd_model.specs.Thing.{Thing}
use Rattle.cd_elements.specs.declared.task.Task.{Task}
use Rattle.cd_elements.specs.Inner.Tasks.{task_text, stack_text}

pub stack_push : (table : List Thing) (tasks : List Task) (task : Task)
    → stack_text table (tasks ++ task ∷ []) ≡ task_text table task ++ stack_text table tasks
stack_push table [] task = sym (append-nil (task_text table task))
stack_push table (first ∷ tasks) task =
    ap (λ text. text ++ task_text table first) (stack_push table tasks task)
    ∙ append_assoc (task_text table task) (stack_text table tasks) (task_text table first)
