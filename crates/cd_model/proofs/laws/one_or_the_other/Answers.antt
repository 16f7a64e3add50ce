use Rattle.cd_model.proofs.Decided.{element_decides}
use Rattle.cd_model.proofs.DecidedAtNodes.{nodes_decide}
use Rattle.cd_model.proofs.DecidedAtWritten.{written_decides}
use Rattle.cd_model.specs.Formula.{nodes}
use Rattle.cd_model.specs.Written.{written, number_of_names, type_of}
use Rattle.cd_model.proofs.laws.one_or_the_other.Goals as goal

pub returns-clause-in_nodes : goal.returns-clause-in_nodes
returns-clause-in_nodes c graph = element_decides (nodes graph) (nodes_decide graph)

pub returns-clause-at_written : goal.returns-clause-at_written
returns-clause-at_written c type is = element_decides (written (number_of_names type))
    (λ read decides. written_decides read decides (number_of_names type)) is (type_of type)
