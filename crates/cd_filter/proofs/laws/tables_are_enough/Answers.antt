use Rattle.cd_model.specs.Formula.{in_node}
use Rattle.cd_model.specs.Interfaces.{value_in_node}
use Rattle.cd_model.proofs.Sorts as sorts
use Rattle.cd_filter.proofs.Catching.{captured_is_caught}
use Rattle.cd_filter.proofs.laws.tables_are_enough.Goals as goal

pub returns-clause-elements : goal.returns-clause-elements
returns-clause-elements c graph = captured_is_caught (in_node graph) sorts.elements

pub returns-clause-values : goal.returns-clause-values
returns-clause-values c graph interfaces =
    captured_is_caught (value_in_node graph interfaces) sorts.values
