use Rattle.std.proofs.Common.{rules}
use Rattle.cd_resolved.specs.Inner.PlainParts.{functions_of}
use Rattle.cd_resolved.proofs.SlotsFilled.{one_more, number_is}
use Rattle.cd_resolved.proofs.parts.functions.by_place.Goals as goal

pub loop-index-preserved : goal.loop-index-preserved
loop-index-preserved c = (
  search rules,
  one_more c.args.all.now c.loop-index.index c.index-all-index.result c.loop-index.slots c.put.new.slots
      (search rules) c.loop-index.invariant.0 c.index-all-index.is c.in_ok-put.ensures.place c.loop-index.invariant.1,
  c.in_ok-put.ensures.number (functions_of c.args.all.now) (number_is c.args.all.now c.loop-index.index c.index-all-index.result
      (search rules) c.loop-index.invariant.0 c.index-all-index.is) c.loop-index.invariant.2,
)
