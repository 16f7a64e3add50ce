use Rattle.std.proofs.Common.{subst}
use Rattle.cd_rules.specs.Clauses.{IsClauseOfQuestion}
use Rattle.cd_rules.specs.PartialConjuncts.{clause_by}
use Rattle.cd_rules.proofs.Completions.{of_complete}
use Rattle.cd_rules.specs.Right.{AreTasksOf}
use Rattle.cd_rules.proofs.WorkOfQuestion.{in_begun_clause}
use Rattle.cd_rules.proofs.machine_laws.members_are_witnesses.Goals as goal

pub returns-clause-begun : goal.returns-clause-begun
returns-clause-begun c = λ graph base question left clause e is begun.
    in_begun_clause graph question clause e (subst (λ clause. AreTasksOf graph question clause left.branches) begun is.branches_are).0

pub returns-clause-complete : goal.returns-clause-complete
returns-clause-complete c = λ graph question kind conjunct e is. in_begun_clause graph question (clause_by kind conjunct) e
    (of_complete (IsClauseOfQuestion graph question) kind conjunct is)
