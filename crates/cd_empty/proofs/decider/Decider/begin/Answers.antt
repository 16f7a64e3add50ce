use Rattle.std.proofs.Common.{◌≡◌, [], map, sym, ap, ◌∙◌}
use Rattle.cd_normal.specs.PlainClause.{plain_clause}
use Rattle.cd_rules.specs.Tasks.{tasks_of}
use Rattle.cd_tasks.specs.PlainTask.{plain_task}
use Rattle.cd_empty.specs.Kept.{table}
use Rattle.cd_empty.proofs.FunctionsSoFar.{member_without_tasks, none_put}
use Rattle.cd_empty.proofs.decider.Decider.begin.Goals as goal

-- where the clause has no task, the function without pairs is in it
pub returns-in_ok-function-in-None-clause-begins :
    goal.returns-in_ok-function-in-None-clause-begins
returns-in_ok-function-in-None-clause-begins c = λ graph.
    let put = none_put c.in_ok-tasks.tasks.items c.clear.new.self c.push_all.new.self c.in_ok-push_all.ensures c.in-None.ensures.0 in
    let none : tasks_of (plain_clause c.args.clause) ≡ [] = sym c.in_ok-tasks.ensures ∙ ap (map plain_task) put in
    member_without_tasks graph (table c.function.new.self) c.args.clause c.in_ok-function-in-None.field-0 c.new-none.result.items
    c.new-none.ensures.items none c.in_ok-function-in-None.ensures.made
