use Rattle.cd_typing.proofs.Examples.{x_of_x_has_none, ten_by_x_has_none}
use Rattle.cd_typing.proofs.laws.examples_without_types.Goals as goal

pub returns-clause-function : goal.returns-clause-function
returns-clause-function c = x_of_x_has_none

pub returns-clause-divisor : goal.returns-clause-divisor
returns-clause-divisor c = ten_by_x_has_none
