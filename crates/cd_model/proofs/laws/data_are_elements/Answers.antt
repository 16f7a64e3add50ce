use Rattle.cd_model.specs.Formula.{nodes}
use Rattle.cd_model.specs.Interfaces.{admits}
use Rattle.cd_model.specs.Written.{written, number_of_names, type_of}
use Rattle.cd_model.proofs.Closures.{data_are_elements}
use Rattle.cd_model.proofs.NoClosure.{data_same}
use Rattle.cd_model.proofs.laws.data_are_elements.Goals as goal

pub returns-clause-sound : goal.returns-clause-sound
returns-clause-sound c = data_are_elements

pub returns-clause-in_nodes : goal.returns-clause-in_nodes
returns-clause-in_nodes c graph interfaces = data_same (nodes graph) (admits interfaces)

pub returns-clause-at_written : goal.returns-clause-at_written
returns-clause-at_written c interfaces is type = data_same (written (number_of_names type)) (admits interfaces) is (type_of type)
