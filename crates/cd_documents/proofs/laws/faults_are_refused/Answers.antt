use Rattle.cd_documents.proofs.Refusing.{wrong_refused, deep_refused}
use Rattle.cd_documents.proofs.laws.faults_are_refused.Goals as goal

pub returns-clause-wrong : goal.returns-clause-wrong
returns-clause-wrong c = wrong_refused

pub returns-clause-deep : goal.returns-clause-deep
returns-clause-deep c = deep_refused
