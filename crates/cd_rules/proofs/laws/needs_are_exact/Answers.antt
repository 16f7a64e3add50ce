use Rattle.cd_rules.proofs.MembersMeet.{member_supplies}
use Rattle.cd_rules.proofs.MembersOfClauses.{supplied_has}
use Rattle.cd_rules.proofs.laws.needs_are_exact.Goals as goal

pub returns-clause-needed : goal.returns-clause-needed
returns-clause-needed c = λ graph more clause begins member.
    member_supplies graph (more, begins) clause member.0 member.1 member.2

pub returns-clause-enough : goal.returns-clause-enough
returns-clause-enough c = λ graph more clause begins names supplied. supplied_has graph more begins clause names supplied
