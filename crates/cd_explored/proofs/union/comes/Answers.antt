use Rattle.cd_explored.specs.Inner.Plan.{plain_plan}
use Rattle.cd_explored.specs.Inner.PlainSteps.{plain_place}
use Rattle.cd_explored.proofs.PlacesRead.{place_there, place_past, asks_there, coming_made, coming_past}
use Rattle.cd_explored.proofs.union.comes.Goals as goal

pub question_formula-requires-clause-pos : goal.question_formula-requires-clause-pos
question_formula-requires-clause-pos c = let plan = plain_plan c.args.plan.now in
    (asks_there plan c.args.number (plain_place c.in-Some.place.now)
    (place_there c.args.plan.now.explored.now.places c.args.number c.in-Some.place.now c.in-Some.ensures)
    c.requires.asks).0

pub question_formula-requires-clause-neg : goal.question_formula-requires-clause-neg
question_formula-requires-clause-neg c = let plan = plain_plan c.args.plan.now in
    (asks_there plan c.args.number (plain_place c.in-Some.place.now)
    (place_there c.args.plan.now.explored.now.places c.args.number c.in-Some.place.now c.in-Some.ensures)
    c.requires.asks).1

pub returns-in-Some : goal.returns-in-Some
returns-in-Some c = let plan = plain_plan c.args.plan.now in
    coming_made plan c.args.number (plain_place c.in-Some.place.now)
    (place_there c.args.plan.now.explored.now.places c.args.number c.in-Some.place.now c.in-Some.ensures)
    c.question_formula.result c.question_formula.ensures

pub returns-in-None : goal.returns-in-None
returns-in-None c = let plan = plain_plan c.args.plan.now in
    coming_past plan c.args.number _
    (place_past c.args.plan.now.explored.now.places c.args.number c.in-None.ensures) c.none.ensures
