use Rattle.cd_rules.proofs.ClausesByKind.{accounts_for_clauses, partial_conjuncts_are}
use Rattle.cd_rules.proofs.task_laws.partial_conjuncts_account_for_clauses.Goals as goal

pub returns-clause-all : goal.returns-clause-all
returns-clause-all c = accounts_for_clauses

pub returns-clause-of_question : goal.returns-clause-of_question
returns-clause-of_question c = partial_conjuncts_are
