use Rattle.cd_placed.proofs.ProgramsInRange.{constants_are_elements}
use Rattle.cd_placed.proofs.laws.constants_are_elements.Goals as goal

pub returns : goal.returns
returns c = constants_are_elements
