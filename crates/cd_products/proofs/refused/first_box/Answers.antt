use Rattle.std.proofs.Common.{[], ◌∷◌, ◌++◌, ap, ◌∙◌}
use Rattle.cd_empty.specs.Seen.{graph_of}
use Rattle.cd_products.specs.Inner.Tests.{keep_boxes}
use Rattle.cd_products.proofs.BoxesOfGraphs.{keep_of_graph}
use Rattle.cd_products.proofs.MadeOfGraphs.{made_of_graph}
use Rattle.cd_products.proofs.refused.first_box.Goals as goal

pub returns-clause-of_graph : goal.returns-clause-of_graph
returns-clause-of_graph c =
    let graph = graph_of c.args.world.now in
    let box = c.args.cells.now in
    made_of_graph graph c.graph.ensures.built_in c.graph.ensures.sound c.keep_one.new.kept.items
    (λ test. keep_boxes test (box ∷ []))
    (λ test is. c.in_ok-keep_one.ensures.exact test is
    ∙ ap (λ old. old ++ keep_boxes test (box ∷ [])) c.new-boxes.ensures.items)
    (λ test. keep_of_graph graph test (box ∷ []) (c.requires, tt))
