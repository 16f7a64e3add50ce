use Rattle.cd_explored.proofs.SamePlaces.{stored_is}
use Rattle.cd_explored.proofs.places.Places.number.Goals as goal

pub returns-clause-found : goal.returns-clause-found
returns-clause-found c =
    let stored = c.in_ok-number.ensures.stored in
    stored_is c.insert_full.new.self.keys c.in_ok-number.number c.args.place stored.0 stored.1
    stored.2
