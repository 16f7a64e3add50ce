use Rattle.cd_explored.proofs.PlacesRead.{places_once}
use Rattle.cd_captured.proofs.capture.batch_of.Goals as goal

pub returns-clause-once : goal.returns-clause-once
returns-clause-once c = places_once c.args.explored.now.places c.len-count.ensures.once

pub returns-in_err-texts-clause-once : goal.returns-in_err-texts-clause-once
returns-in_err-texts-clause-once c = places_once c.args.explored.now.places c.len-count.ensures.once
