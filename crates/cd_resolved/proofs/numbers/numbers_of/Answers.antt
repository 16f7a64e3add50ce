use Rattle.std.proofs.lemmas.Option.{slice_get-get_or}
use Rattle.cd_resolved.proofs.NumbersFound.{one_more, all_found}
use Rattle.cd_resolved.proofs.numbers.numbers_of.Goals as goal

pub loop-number-preserved : goal.loop-number-preserved
loop-number-preserved c = one_more c.args.places.now c.loop-number.number _
    (slice_get-get_or c.args.places.now c.loop-number.number 0 c.loop-number-test.true) c.loop-number.slots c.put.new.self
    c.in_ok-put.ensures.put c.in_ok-put.ensures.others c.loop-number.invariant

pub returns : goal.returns
returns c = all_found c.args.places.now c.loop-number.number c.loop-number.slots c.loop-number-test.false c.loop-number.invariant
