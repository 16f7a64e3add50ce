use Rattle.std.proofs.Common.{map, ◌∙◌}
use Rattle.std.proofs.lemmas.Result.{IfOk-weaker}
use Rattle.cd_empty.specs.Seen.{graph_of}
use Rattle.cd_products.specs.Inner.PlainBoxes.{plain_box}
use Rattle.cd_products.proofs.ProductsOfBoxes.{AreTripleBoxes, boxes_of_same, triple_boxes_ask}
use Rattle.cd_products.proofs.ProductsOfBoxes.{triples_are, triples_cover}
use Rattle.cd_products.proofs.PiecesOfGraphs.{triples_ask, made_ask}
use Rattle.cd_products.proofs.of_xmls.xml_triples.Goals as goal

pub pieces-requires : goal.pieces-requires
pieces-requires c =
    let graph = graph_of c.args.world.now in
    let question = c.args.question.now in
    triple_boxes_ask graph c.graph.ensures.built_in c.graph.ensures.sound question
    (map plain_box c.as_slice.result.now)
    (boxes_of_same (AreTripleBoxes question) graph _ _ _ c.graph.ensures.graph
    c.as_slice.ensures.value c.in_ok-clauses.ensures)

pub returns-clause-triples : goal.returns-clause-triples
returns-clause-triples c =
    let graph = graph_of c.args.world.now in
    let question = c.args.question.now in
    let boxes = boxes_of_same (AreTripleBoxes question) graph _ _ _ c.graph.ensures.graph
    c.as_slice.ensures.value c.in_ok-clauses.ensures in
    IfOk-weaker c.triples_in.result _ _
    (λ triples same. triples_are graph c.graph.ensures.built_in c.graph.ensures.sound question
    (map plain_box c.as_slice.result.now) c.requires c.as_slice-2.result.now
    (λ test is. c.as_slice-2.ensures.value ∙ c.in_ok-boxes.ensures.exact test is)
    boxes triples.items same)
    c.triples_in.ensures

pub returns-clause-values : goal.returns-clause-values
returns-clause-values c =
    let graph = graph_of c.args.world.now in
    let question = c.args.question.now in
    let boxes = boxes_of_same (AreTripleBoxes question) graph _ _ _ c.graph.ensures.graph
    c.as_slice.ensures.value c.in_ok-clauses.ensures in
    IfOk-weaker c.triples_in.result _ _
    (λ triples same. triples_cover graph c.graph.ensures.built_in c.graph.ensures.sound question
    (map plain_box c.as_slice.result.now) c.requires c.as_slice-2.result.now
    (λ test is. c.as_slice-2.ensures.value ∙ c.in_ok-boxes.ensures.exact test is)
    boxes triples.items same)
    c.triples_in.ensures

pub returns-clause-asks : goal.returns-clause-asks
returns-clause-asks c =
    let graph = graph_of c.args.world.now in
    let question = c.args.question.now in
    let clauses = map plain_box c.as_slice.result.now in
    let boxes = boxes_of_same (AreTripleBoxes question) graph _ _ _ c.graph.ensures.graph
    c.as_slice.ensures.value c.in_ok-clauses.ensures in
    IfOk-weaker c.triples_in.result _ _
    (λ triples same. triples_ask graph c.as_slice-2.result.now triples.items same
    (made_ask graph c.graph.ensures.built_in c.graph.ensures.sound clauses
    c.as_slice-2.result.now
    (λ test is. c.as_slice-2.ensures.value ∙ c.in_ok-boxes.ensures.exact test is)
    (triple_boxes_ask graph c.graph.ensures.built_in c.graph.ensures.sound question clauses boxes)))
    c.triples_in.ensures
