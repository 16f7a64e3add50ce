use Rattle.cd_rules.proofs.ValuesDecided.{in_or_outside, in_or_outside_written}
use Rattle.cd_rules.proofs.laws.values_are_decided.Goals as goal

pub returns-clause-by_nodes : goal.returns-clause-by_nodes
returns-clause-by_nodes c = λ graph more arrows v id begins sound. in_or_outside graph more begins sound arrows v id

pub returns-clause-by_written : goal.returns-clause-by_written
returns-clause-by_written c = λ graph more count arrows others v id begins sound agree.
    in_or_outside_written graph more begins sound arrows count others agree v id
