use Rattle.std.proofs.Common.{◌-◌, ◌&&◌, true, drop, take, length, refl, ◌≡◌, ◌<◌, arith}
use Rattle.std.proofs.lemmas.Result.{IfOk-weaker}
use Rattle.cd_graph.specs.Nodes.{nodes}
use Rattle.cd_graph.specs.PlainFormula.{plain}
use Rattle.cd_rules.specs.BasicSets.{passes, in_all}
use Rattle.cd_normal.proofs.ExactSets.{exact_so, one_wanted, last_wanted, no_nodes, all_of_parts}
use Rattle.cd_normal.proofs.Nothing.{nothing_left}
use Rattle.cd_normal.proofs.holding.wanted.Goals as goal

-- no node leaves anything out
pub returns-then-index-eq0 : goal.returns-then-index-eq0
returns-then-index-eq0 c =
    let graph = nodes c.args.graph.now in
    let none : length c.args.ids.now ≡ 0 = omega arith in
    IfOk-weaker c.all.result _ _ (λ sets exact. exact_so (λ test. true) (λ test. in_all test graph c.args.ids.now)
    (no_nodes graph c.args.ids.now none) sets exact) c.all.ensures

-- at first the last node alone
pub loop-index-init : goal.loop-index-init
loop-index-init c =
    let graph = nodes c.args.graph.now in
    let ids = c.args.ids.now in
    let formula = plain c.formula.result.now in
    let some : 0 < length ids = omega arith in (
      omega arith,
      exact_so (λ test. passes test formula) (λ test. in_all test graph (drop (length ids - 1) ids))
          (last_wanted graph ids _ some formula c.formula.ensures.formula) c.in_ok-all.all c.in_ok-all.ensures,
    )

-- nothing is left of nothing
pub returns-then-is_empty : goal.returns-then-is_empty
returns-then-is_empty c =
    let graph = nodes c.args.graph.now in
    let ids = c.args.ids.now in
    let index = c.loop-index.index in
    let all = c.loop-index.all in
    exact_so (λ test. in_all test graph (drop index ids) && in_all test graph (take index ids)) (λ test. in_all test graph ids)
    (λ test. all_of_parts test graph index ids) all
    (nothing_left all (c.if-is_empty.ensures.0 refl) (λ test. in_all test graph (drop index ids)) (λ test. in_all test graph (take index ids))
    c.loop-index.invariant.1)

-- what is in the next node too is left
pub loop-index-preserved : goal.loop-index-preserved
loop-index-preserved c =
    let graph = nodes c.args.graph.now in
    let ids = c.args.ids.now in
    let index = c.loop-index.index in
    let formula = plain c.formula-in-loop-index.result.now in (
      omega (arith, c.loop-index.invariant.0),
      exact_so (λ test. passes test formula && in_all test graph (drop index ids))
          (λ test. in_all test graph (drop (index - 1) ids))
          (one_wanted graph ids index _ c.loop-index-test.true c.loop-index.invariant.0 formula c.formula-in-loop-index.ensures.formula)
          c.in_ok-all-2.all
          (c.in_ok-all-2.ensures (λ test. passes test formula) (λ test. in_all test graph (drop index ids))
          c.in_ok-of_formula.ensures c.loop-index.invariant.1),
    )
