use Rattle.cd_rules.proofs.EachQuestion.{has_or_not, element_too}
use Rattle.cd_rules.proofs.laws.questions_are_decided.Goals as goal

pub returns-clause-decided : goal.returns-clause-decided
returns-clause-decided c = λ graph more question begins sound. has_or_not graph more begins sound question

pub returns-clause-values : goal.returns-clause-values
returns-clause-values c = λ graph more question interfaces v begins sound none is inside.
    none (element_too graph more begins sound question interfaces v is inside)

pub returns-clause-realised : goal.returns-clause-realised
returns-clause-realised c = λ graph more question interfaces v begins sound is inside.
    element_too graph more begins sound question interfaces v is inside
