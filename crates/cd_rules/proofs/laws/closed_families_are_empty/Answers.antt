use Rattle.cd_rules.proofs.NoMember.{element_out, value_out}
use Rattle.cd_rules.proofs.laws.closed_families_are_empty.Goals as goal

pub returns-clause-elements : goal.returns-clause-elements
returns-clause-elements c = λ graph more family question is begins closed there element asking.
    element_out graph (more, begins) family closed is element question asking there

pub returns-clause-values : goal.returns-clause-values
returns-clause-values c = λ graph more family question interfaces is begins closed there value asking.
    value_out graph (more, begins) family closed interfaces is value question asking there
