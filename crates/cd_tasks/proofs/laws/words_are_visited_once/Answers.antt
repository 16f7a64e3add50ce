use Rattle.cd_tasks.proofs.VisitedOnce.{each_is_visited, words_differ}
use Rattle.cd_tasks.proofs.laws.words_are_visited_once.Goals as goal

pub returns-clause-once : goal.returns-clause-once
returns-clause-once c = words_differ

pub returns-clause-each : goal.returns-clause-each
returns-clause-each c = each_is_visited
