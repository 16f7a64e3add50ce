use Rattle.std.proofs.Common.{◌-◌, ◌&&◌, not, drop, length, refl, ap, arith}
use Rattle.cd_graph.specs.Nodes.{nodes}
use Rattle.cd_graph.specs.PlainFormula.{plain}
use Rattle.cd_rules.specs.BasicSets.{passes, in_none}
use Rattle.cd_normal.proofs.Lists.{all_left}
use Rattle.cd_normal.proofs.ExactSets.{exact_so, one_refused, none_refused}
use Rattle.cd_normal.proofs.Nothing.{nothing_left}
use Rattle.cd_normal.proofs.holding.without.Goals as goal

-- at first nothing is taken
pub loop-index-init : goal.loop-index-init
loop-index-init c =
    let graph = nodes c.args.graph.now in
    let ids = c.args.ids.now in (
      omega arith,
      λ passing here. exact_so passing (λ test. passing test && in_none test graph (drop (length ids) ids))
          (λ test. none_refused graph ids test (passing test)) c.args.sets here,
    )

-- then what is in the next node
pub loop-index-preserved : goal.loop-index-preserved
loop-index-preserved c =
    let graph = nodes c.args.graph.now in
    let ids = c.args.ids.now in
    let index = c.loop-index.index in
    let formula = plain c.formula.result.now in (
      omega (arith, c.loop-index.invariant.0),
      λ passing here. exact_so (λ test. (passing test && in_none test graph (drop index ids)) && not (passes test formula))
          (λ test. passing test && in_none test graph (drop (index - 1) ids))
          (λ test. one_refused graph ids index _ c.loop-index-test.true c.loop-index.invariant.0 formula c.formula.ensures.formula test
          (passing test)) c.in_ok-left.left
          (c.in_ok-left.ensures (λ test. passing test && in_none test graph (drop index ids)) (λ test. passes test formula)
          (c.loop-index.invariant.1 passing here) c.in_ok-of_formula.ensures),
    )

-- in the end what is in any of them
pub returns : goal.returns
returns c = λ passing here.
    let graph = nodes c.args.graph.now in
    let ids = c.args.ids.now in
    let index = c.loop-index.index in
    exact_so (λ test. passing test && in_none test graph (drop index ids)) (λ test. passing test && in_none test graph ids)
    (λ test. ap (λ left. passing test && in_none test graph left) (all_left ids index c.loop-index-test.false)) c.loop-index.left
    (c.loop-index.invariant.1 passing here)

-- nothing is left of nothing
pub returns-then-is_empty : goal.returns-then-is_empty
returns-then-is_empty c = λ passing here.
    nothing_left c.args.sets (c.if-is_empty.ensures.0 refl) passing (λ test. in_none test (nodes c.args.graph.now) c.args.ids.now) here
