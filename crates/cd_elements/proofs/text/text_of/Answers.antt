use Rattle.cd_elements.specs.Elements.{table}
use Rattle.cd_elements.proofs.Writes.{less_left}
use Rattle.cd_elements.proofs.text.text_of.Goals as goal

pub loop-task-smaller : goal.loop-task-smaller
loop-task-smaller c =
    let all = table c.args.elements.now in
    less_left all _ _ c.pop.new.self _ c.loop-task.tasks c.write_task.new.tasks
    (c.in-Some.ensures all) c.in_ok-write_task.ensures
