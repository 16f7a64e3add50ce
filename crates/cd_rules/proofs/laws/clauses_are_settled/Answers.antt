use Rattle.cd_rules.specs.Members.{HasElement}
use Rattle.cd_rules.proofs.Settling.{clause_settled}
use Rattle.cd_rules.proofs.laws.clauses_are_settled.Goals as goal

pub returns : goal.returns
returns c = λ graph family clause settled. clause_settled (HasElement graph) family clause settled
