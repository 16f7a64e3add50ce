use Rattle.cd_model.specs.Membership.{reader, value_reader}
use Rattle.cd_rules.proofs.UnionsAlike.{equal_formulas, unions_alike}
use Rattle.cd_rules.proofs.task_laws.unions_answer_alike.Goals as goal

pub returns-clause-nodes : goal.returns-clause-nodes
returns-clause-nodes c = λ graph one other e answer same. equal_formulas graph (reader graph e) one other answer same

pub returns-clause-nodes_by_values : goal.returns-clause-nodes_by_values
returns-clause-nodes_by_values c = λ graph interfaces one other v answer same.
    equal_formulas graph (value_reader graph interfaces v) one other answer same

pub returns-clause-unions : goal.returns-clause-unions
returns-clause-unions c = λ graph some others e answer same. unions_alike (reader graph e) some others answer same

pub returns-clause-unions_by_values : goal.returns-clause-unions_by_values
returns-clause-unions_by_values c = λ graph interfaces some others v answer same.
    unions_alike (value_reader graph interfaces v) some others answer same
