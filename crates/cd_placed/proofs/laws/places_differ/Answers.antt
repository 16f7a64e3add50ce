use Rattle.cd_placed.proofs.PlacesOfPrograms.{functions_stand_apart, patterns_begin_apart}
use Rattle.cd_placed.proofs.laws.places_differ.Goals as goal

pub returns-clause-functions : goal.returns-clause-functions
returns-clause-functions c = functions_stand_apart

pub returns-clause-patterns : goal.returns-clause-patterns
returns-clause-patterns c = patterns_begin_apart
