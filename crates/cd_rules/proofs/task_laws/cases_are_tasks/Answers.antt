use Rattle.cd_rules.proofs.CasesAreTasks.{tasks_are, cases_of_task}
use Rattle.cd_rules.proofs.TasksOfNodes.{task_of_nodes}
use Rattle.cd_rules.proofs.task_laws.cases_are_tasks.Goals as goal

pub returns-clause-tasks : goal.returns-clause-tasks
returns-clause-tasks c = tasks_are

pub returns-clause-cases : goal.returns-clause-cases
returns-clause-cases c = cases_of_task

pub returns-clause-of_nodes : goal.returns-clause-of_nodes
returns-clause-of_nodes c = task_of_nodes
