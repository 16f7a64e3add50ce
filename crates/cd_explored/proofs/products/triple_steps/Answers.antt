use Rattle.std.proofs.Common.{sym, subst}
use Rattle.std.proofs.lemmas.Result.{IfOk-weaker}
use Rattle.cd_matching.specs.Kernel.{Xml}
use Rattle.cd_matching.specs.PlainKernel.{plain_nodes}
use Rattle.cd_empty.specs.Seen.{graph_of}
use Rattle.cd_explored.specs.Inner.NodeSteps.{AreNodeSteps}
use Rattle.cd_explored.proofs.ProductSteps.{steps_of_triples}
use Rattle.cd_explored.proofs.products.triple_steps.Goals as goal

pub returns-clause-steps : goal.returns-clause-steps
returns-clause-steps c =
    let graph = graph_of c.args.world.now in
    let nodes = plain_nodes c.args.base.now.kernel.now.nodes.items in
    IfOk-weaker c.lead_to_triples.result _ _
    (λ leads same. subst
    (AreNodeSteps graph nodes c.args.base.now.first c.args.question.now
    (Xml c.args.tag c.args.attributes c.args.content)) (sym same)
    (steps_of_triples graph nodes c.args.base.now.first c.args.question.now c.args.tag c.args.attributes c.args.content
    c.requires.tag c.requires.attributes c.requires.content c.in_ok-triples.triples.items c.in_ok-triples.ensures.triples
    c.in_ok-triples.ensures.values c.in_ok-triples.ensures.asks))
    c.lead_to_triples.ensures
