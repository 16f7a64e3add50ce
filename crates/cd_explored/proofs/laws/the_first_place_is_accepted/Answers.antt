use Rattle.cd_explored.proofs.FirstPlace.{first_is_place}
use Rattle.cd_explored.proofs.laws.the_first_place_is_accepted.Goals as goal

pub returns : goal.returns
returns c graph kernel first matched is below =
    first_is_place graph kernel first is matched below
