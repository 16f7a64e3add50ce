use Rattle.cd_variables.proofs.VariablesFound.{variables_found}
use Rattle.cd_variables.proofs.laws.faults_are_found.Goals as goal

pub returns : goal.returns
returns c = variables_found
