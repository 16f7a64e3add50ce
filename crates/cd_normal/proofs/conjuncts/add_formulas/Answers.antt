use Rattle.std.proofs.Common.{ap, arith}
use Rattle.cd_graph.specs.Nodes.{nodes}
use Rattle.cd_model.specs.Formula.{formula_at}
use Rattle.cd_normal.specs.Inner.PlainPartial.{signed, plain_left}
use Rattle.cd_normal.proofs.Stacks.{next_put}
use Rattle.cd_normal.proofs.conjuncts.add_formulas.Goals as goal

-- one more formula stands before those that were left
pub loop-index-preserved : goal.loop-index-preserved
loop-index-preserved c = (
  omega arith,
  next_put (λ id. (formula_at (nodes c.args.graph.now) id, c.args.wanted)) signed c.args.ids.now c.loop-index.index _
      c.loop-index-test.true c.loop-index.invariant.0 c.loop-index.left.items c.push.new.self.items _ c.in_ok-push.ensures.items
      (ap (λ is. (is, c.args.wanted)) c.formula.ensures.formula) (plain_left c.args.left.now.items) c.loop-index.invariant.1,
)
