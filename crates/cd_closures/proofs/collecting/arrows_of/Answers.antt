use Rattle.std.proofs.Common.{arith}
use Rattle.cd_graph.specs.Nodes.{nodes}
use Rattle.cd_graph.specs.PlainFormula.{plain}
use Rattle.cd_closures.proofs.ArrowsCollected.{further}
use Rattle.cd_closures.proofs.collecting.arrows_of.Goals as goal

pub loop-place-preserved : goal.loop-place-preserved
loop-place-preserved c = further (nodes c.args.graph.now) c.loop-place.place (omega (arith, c.loop-place-test.true, c.len-place-end.ensures.count))
    c.loop-place.arrows c.add_arrows.new.arrows (plain c.formula.result.now) c.in_ok-add_arrows.ensures c.formula.ensures.formula c.loop-place.invariant
