use Rattle.std.proofs.Common.{◌∷◌, sym, subst}
use Rattle.cd_model.specs.Thing.{NoPair}
use Rattle.cd_rules.specs.MadeForTasks.{IsFunctionBut}
use Rattle.cd_rules.proofs.MembersOfTasks.{function_of_none, arrows_at_first, arrows_of_cases, maps_of_task, fails_of_task, function_of_arrows}
use Rattle.cd_rules.proofs.task_laws.tasks_make_functions.Goals as goal

pub returns-clause-no_pair : goal.returns-clause-no_pair
returns-clause-no_pair c = λ graph wanted refused. subst (λ arrows. IsFunctionBut graph wanted refused arrows NoPair)
    (sym (arrows_at_first wanted refused)) (function_of_none graph wanted refused)

pub returns-clause-cases : goal.returns-clause-cases
returns-clause-cases c = arrows_of_cases

pub returns-clause-maps : goal.returns-clause-maps
returns-clause-maps c = λ graph wanted refused one others pairs argument result given arrow arrows left before argument_is result_is is
    in_way right. maps_of_task graph wanted refused one others pairs before argument result argument_is result_is
    (given, arrow ∷ arrows) left is in_way.0 in_way.1.0 right

pub returns-clause-fails : goal.returns-clause-fails
returns-clause-fails c = λ graph wanted refused one others pairs argument given left before argument_is is in_way outside.
    fails_of_task graph wanted refused one others pairs before argument argument_is given left is in_way.0 outside

pub returns-clause-in_clause : goal.returns-clause-in_clause
returns-clause-in_clause c = function_of_arrows
