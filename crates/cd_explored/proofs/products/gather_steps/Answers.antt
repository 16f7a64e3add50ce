use Rattle.std.proofs.Common.{sym, subst}
use Rattle.std.proofs.lemmas.Result.{IfOk-weaker}
use Rattle.cd_matching.specs.Kernel.{Gather}
use Rattle.cd_matching.specs.PlainKernel.{plain_nodes}
use Rattle.cd_empty.specs.Seen.{graph_of}
use Rattle.cd_explored.specs.Inner.NodeSteps.{AreNodeSteps}
use Rattle.cd_explored.proofs.ProductSteps.{steps_of_gathers}
use Rattle.cd_explored.proofs.products.gather_steps.Goals as goal

pub returns-clause-steps : goal.returns-clause-steps
returns-clause-steps c =
    let graph = graph_of c.args.world.now in
    let nodes = plain_nodes c.args.base.now.kernel.now.nodes.items in
    IfOk-weaker c.gather_pairs.result _ _
    (λ leads same. subst
    (AreNodeSteps graph nodes c.args.base.now.first c.args.question.now
    (Gather c.args.variable c.args.first c.args.second)) (sym same)
    (steps_of_gathers graph nodes c.args.base.now.first c.args.question.now c.args.variable c.args.first c.args.second
    c.requires.first c.requires.second c.in_ok-products.products.items c.in_ok-products.ensures.products
    c.in_ok-products.ensures.values c.in_ok-products.ensures.asks))
    c.gather_pairs.ensures
