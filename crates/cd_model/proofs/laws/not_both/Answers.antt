use Rattle.cd_model.proofs.Apart.{element_apart, value_apart}
use Rattle.cd_model.proofs.ApartAtNodes.{nodes_keep}
use Rattle.cd_model.proofs.ApartAtWritten.{written_keeps, not_both}
use Rattle.cd_model.specs.Formula.{nodes}
use Rattle.cd_model.specs.Interfaces.{admits}
use Rattle.cd_model.specs.Written.{written, number_of_names, type_of}
use Rattle.cd_model.proofs.laws.not_both.Goals as goal

pub returns-clause-in_nodes : goal.returns-clause-in_nodes
returns-clause-in_nodes c graph = element_apart (nodes graph) (nodes_keep graph)

pub returns-clause-values_in_nodes : goal.returns-clause-values_in_nodes
returns-clause-values_in_nodes c graph interfaces = value_apart (nodes graph) (nodes_keep graph) (admits interfaces)

pub returns-clause-at_written : goal.returns-clause-at_written
returns-clause-at_written c = not_both

pub returns-clause-values_at_written : goal.returns-clause-values_at_written
returns-clause-values_at_written c type interfaces is = value_apart (written (number_of_names type))
    (λ read apart. written_keeps read apart (number_of_names type)) (admits interfaces) is (type_of type)
