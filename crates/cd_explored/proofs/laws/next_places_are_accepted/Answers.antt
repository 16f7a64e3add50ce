use Rattle.cd_explored.proofs.AcceptedNext.{accepted_next}
use Rattle.cd_explored.proofs.laws.next_places_are_accepted.Goals as goal

pub returns : goal.returns
returns c graph kernel first entry is accepted settled =
    accepted_next graph kernel first is entry accepted settled
