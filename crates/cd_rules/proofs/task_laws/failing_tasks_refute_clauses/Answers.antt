use Rattle.cd_rules.proofs.FailingTasks.{subsumed_fails, cases_fail, task_refutes}
use Rattle.cd_rules.proofs.task_laws.failing_tasks_refute_clauses.Goals as goal

pub returns-clause-subsumed : goal.returns-clause-subsumed
returns-clause-subsumed c = subsumed_fails

pub returns-clause-cases : goal.returns-clause-cases
returns-clause-cases c = cases_fail

pub returns-clause-refutes : goal.returns-clause-refutes
returns-clause-refutes c = task_refutes
