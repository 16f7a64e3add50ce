use Rattle.cd_model.specs.Formula.{in_node}
use Rattle.cd_model.specs.Interfaces.{value_in_node}
use Rattle.cd_model.specs.Thing.{IsElement, IsValue}
use Rattle.cd_matching.proofs.CapturedVariables.{something, nothing_else, something_answers}
use Rattle.cd_matching.proofs.CapturedVariables.{nothing_else_answers}
use Rattle.cd_matching.proofs.laws.variables_have.Goals as goal

pub returns-clause-bound : goal.returns-clause-bound
returns-clause-bound c = something

pub returns-clause-unbound : goal.returns-clause-unbound
returns-clause-unbound c = nothing_else

pub returns-clause-element_bound : goal.returns-clause-element_bound
returns-clause-element_bound c graph = something_answers (in_node graph) IsElement

pub returns-clause-element_unbound : goal.returns-clause-element_unbound
returns-clause-element_unbound c graph = nothing_else_answers (in_node graph) IsElement

pub returns-clause-value_bound : goal.returns-clause-value_bound
returns-clause-value_bound c graph interfaces =
    something_answers (value_in_node graph interfaces) IsValue

pub returns-clause-value_unbound : goal.returns-clause-value_unbound
returns-clause-value_unbound c graph interfaces =
    nothing_else_answers (value_in_node graph interfaces) IsValue
