use Rattle.std.proofs.Common.{◌<◌, sym, subst}
use Rattle.cd_model.specs.AllOf.{AllOf}
use Rattle.cd_model.proofs.ByNumber.{all_got}
use Rattle.cd_rules.specs.Family.{AsksNodes}
use Rattle.cd_explored.specs.Inner.PlainSteps.{plain_place, plain_places}
use Rattle.cd_explored.proofs.PlacesRead.{place_there}
use Rattle.cd_captured.proofs.known.asked_at.Goals as goal

pub returns-in-Some : goal.returns-in-Some
returns-in-Some c count asks =
    let places = c.args.explored.now.places in
    let place = c.in-Some.place.now in
    subst (AllOf (λ id. id.0 < count)) (sym c.ids.ensures.value)
    (all_got (λ place. AsksNodes count place.question) (plain_places places) c.args.number
    (plain_place place) asks (place_there places c.args.number place c.in-Some.ensures)).0
