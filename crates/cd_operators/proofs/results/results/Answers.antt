use Rattle.std.proofs.Common.{◌∷◌, [], ◌++◌, sym, ap, subst, ◌∙◌}
use Rattle.cd_model.specs.Formula.{Graph}
use Rattle.cd_empty.specs.Seen.{graph_of}
use Rattle.cd_operators.specs.Inner.Results.{AreIntegersOf, AreResults}
use Rattle.cd_operators.proofs.ResultNodes.{results_there, same_results}
use Rattle.cd_operators.proofs.results.results.Goals as goal

pub returns-clause-results : goal.returns-clause-results
returns-clause-results c =
    let graph = graph_of c.args.world.now in
    let one = c.in_ok-one.one in
    let other = c.in_ok-other.other in
    subst (λ (g : Graph).
    AreResults c.args.operation graph g c.args.first c.args.second c.known_node.result)
    (sym c.known_node.ensures.graph)
    (same_results c.args.operation graph (graph_of c.put.new.world) c.args.first c.args.second
    c.in_ok-id.id c.known_node.result
    (subst (λ (g : Graph).
    AreResults c.args.operation graph g c.args.first c.args.second c.in_ok-id.id)
    (sym (c.in_ok-id.ensures.added ∙ ap (λ f. graph ++ f ∷ []) c.ints-all.ensures))
    (results_there c.args.operation graph c.args.first c.args.second one other
    c.in_ok-combined.field-0
    (subst (λ (g : Graph). AreIntegersOf g c.args.first one) c.graph.ensures.graph
    c.in_ok-one.ensures)
    (subst (λ (g : Graph). AreIntegersOf g c.args.second other) c.graph-2.ensures.graph
    c.in_ok-other.ensures) c.in_ok-combined.ensures c.in_ok-id.id c.in_ok-id.ensures.last))
    c.known_node.ensures.same)
