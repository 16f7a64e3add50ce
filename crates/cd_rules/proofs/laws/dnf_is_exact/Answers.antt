use Rattle.cd_model.specs.Membership.{reader, value_reader}
use Rattle.cd_rules.proofs.DnfExact.{question_exact}
use Rattle.cd_rules.proofs.laws.dnf_is_exact.Goals as goal

pub returns-clause-elements : goal.returns-clause-elements
returns-clause-elements c graph question is = question_exact (reader graph is) graph question

pub returns-clause-values : goal.returns-clause-values
returns-clause-values c graph question interfaces is = question_exact (value_reader graph interfaces is) graph question
