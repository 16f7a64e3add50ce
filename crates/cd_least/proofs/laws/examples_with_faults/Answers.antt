use Rattle.cd_least.proofs.Examples.{x_of_x_has_fault, ten_by_x_has_fault}
use Rattle.cd_least.proofs.laws.examples_with_faults.Goals as goal

pub returns-clause-function : goal.returns-clause-function
returns-clause-function c = x_of_x_has_fault

pub returns-clause-divisor : goal.returns-clause-divisor
returns-clause-divisor c = ten_by_x_has_fault
