use Rattle.cd_model.specs.Membership.{closure_mapping}
use Rattle.cd_model.specs.Types.{no_closure}
use Rattle.cd_rules.proofs.RowsOfThings.{record_exact}
use Rattle.cd_rules.proofs.laws.rows_are_exact.Goals as goal

pub returns-clause-elements : goal.returns-clause-elements
returns-clause-elements c graph = record_exact graph no_closure

pub returns-clause-values : goal.returns-clause-values
returns-clause-values c graph interfaces = record_exact graph (closure_mapping graph interfaces)
