use Rattle.std.proofs.Common.{◌&&◌}
use Rattle.std.proofs.lemmas.Result.{IfOk-weaker}
use Rattle.cd_graph.specs.Nodes.{nodes}
use Rattle.cd_rules.specs.BasicSets.{in_all, in_none, question_passes}
use Rattle.cd_normal.proofs.ExactSets.{exact_so}
use Rattle.cd_normal.proofs.holding.basics.Goals as goal

pub returns-clause-integers : goal.returns-clause-integers
returns-clause-integers c =
    let graph = nodes c.args.graph.now in
    IfOk-weaker c.without.result _ _
    (λ sets of. (exact_so (λ test. in_all test graph c.ids.result.now && in_none test graph c.ids-2.result.now)
    (λ test. question_passes test graph c.args.question.now)
    (λ test i. in_all test graph (c.ids.ensures.value i) && in_none test graph (c.ids-2.ensures.value i)) sets
    (of (λ test. in_all test graph c.ids.result.now) c.in_ok-inside.ensures)).0) c.without.ensures

pub returns-clause-characters : goal.returns-clause-characters
returns-clause-characters c =
    let graph = nodes c.args.graph.now in
    IfOk-weaker c.without.result _ _
    (λ sets of. (exact_so (λ test. in_all test graph c.ids.result.now && in_none test graph c.ids-2.result.now)
    (λ test. question_passes test graph c.args.question.now)
    (λ test i. in_all test graph (c.ids.ensures.value i) && in_none test graph (c.ids-2.ensures.value i)) sets
    (of (λ test. in_all test graph c.ids.result.now) c.in_ok-inside.ensures)).1) c.without.ensures

pub returns-clause-atoms : goal.returns-clause-atoms
returns-clause-atoms c =
    let graph = nodes c.args.graph.now in
    IfOk-weaker c.without.result _ _
    (λ sets of. (exact_so (λ test. in_all test graph c.ids.result.now && in_none test graph c.ids-2.result.now)
    (λ test. question_passes test graph c.args.question.now)
    (λ test i. in_all test graph (c.ids.ensures.value i) && in_none test graph (c.ids-2.ensures.value i)) sets
    (of (λ test. in_all test graph c.ids.result.now) c.in_ok-inside.ensures)).2) c.without.ensures
