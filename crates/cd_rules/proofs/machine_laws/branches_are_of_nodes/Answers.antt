use Rattle.cd_rules.proofs.WorkOfQuestion.{tasks_of_nodes}
use Rattle.cd_rules.proofs.machine_laws.branches_are_of_nodes.Goals as goal

pub returns : goal.returns
returns c = λ graph more base question left begins sound is.
    tasks_of_nodes graph more begins sound question left.clause left.branches is.branches_are
