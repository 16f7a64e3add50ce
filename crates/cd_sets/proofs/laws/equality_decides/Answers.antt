use Rattle.cd_sets.proofs.Same.{sets_decide, questions_decide}
use Rattle.cd_sets.proofs.laws.equality_decides.Goals as goal

pub returns-clause-sets : goal.returns-clause-sets
returns-clause-sets c = sets_decide

pub returns-clause-questions : goal.returns-clause-questions
returns-clause-questions c = questions_decide
