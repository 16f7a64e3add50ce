use Rattle.std.proofs.Common.{ap, ◌∙◌, ◌++◌, sym}
use Rattle.cd_model.specs.Canonical.{Text}
use Rattle.cd_print.specs.Inner.Tasks.{tasks_text}
use Rattle.cd_print.proofs.Writing.{less_left}
use Rattle.cd_print.proofs.print.print_value.Goals as goal

pub loop-task-smaller : goal.loop-task-smaller
loop-task-smaller c =
    let values = c.args.values.now in
    let before = c.in-Some.ensures values in
    less_left c.loop-task.output (tasks_text values c.loop-task.tasks) c.write_task.new.output
    (tasks_text values c.write_task.new.tasks) c.in_ok-write_task.ensures.longer
    (c.in_ok-write_task.ensures.text ∙ ap (λ (text : Text). c.loop-task.output ++ text) (sym before))
