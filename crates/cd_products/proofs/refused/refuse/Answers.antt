use Rattle.std.proofs.Common.{◌++◌, length, refl, ap, ◌∙◌}
use Rattle.cd_model.specs.AllOf.{AllOf}
use Rattle.cd_rules.specs.Family.{AsksNodes}
use Rattle.cd_empty.specs.Seen.{graph_of}
use Rattle.cd_products.specs.Inner.Tests.{less_row, keep_boxes, refuse_row}
use Rattle.cd_products.proofs.AtPlaces.{each_at}
use Rattle.cd_products.proofs.BoxesOfGraphs.{less_of_graph, refuse_of_graph}
use Rattle.cd_products.proofs.Gathering.{gathered, gathered_all}
use Rattle.cd_products.proofs.MadeOfGraphs.{made_of_graph, of_same_graph}
use Rattle.cd_products.proofs.WorldsAfter.{and_after, test_after}
use Rattle.cd_products.proofs.refused.refuse.Goals as goal

pub keep-requires : goal.keep-requires
keep-requires c =
    let graph = graph_of c.args.world.now in
    let row = c.args.row.now in
    let box = c.cells-item.result in
    of_same_graph graph _ _ (less_row row box) c.loop-cells.invariant.0.graph
    (c.as_slice.ensures.value ∙ c.in_ok-parts.ensures ∙ ap (less_row row) c.items.ensures)
    (less_of_graph graph row box c.requires.row
    (each_at (AllOf (AsksNodes (length graph))) c.args.boxes.now c.loop-cells.cells-index box
    c.requires.boxes c.loop-cells-test.true c.cells-item.is))

pub loop-cells-preserved : goal.loop-cells-preserved
loop-cells-preserved c =
    let row = c.args.row.now in
    let so_far = c.loop-cells.invariant in
    let step = c.in_ok-keep.ensures in (
      and_after _ _ _ so_far.0 step.after,
      λ test is. gathered (λ box. keep_boxes test (less_row row box)) (refuse_row test row)
          (λ box boxes. refl) c.args.boxes.now c.loop-cells.cells-index c.cells-item.result
          c.loop-cells.found.items _ c.loop-cells-test.true c.cells-item.is
          (step.exact test (test_after _ _ so_far.0 test is)
          ∙ ap (λ boxes. c.loop-cells.found.items ++ keep_boxes test boxes)
          (c.as_slice.ensures.value ∙ c.in_ok-parts.ensures ∙ ap (less_row row) c.items.ensures))
          ∙ so_far.1 test is,
    )

pub returns-clause-of_graph : goal.returns-clause-of_graph
returns-clause-of_graph c =
    let graph = graph_of c.args.world.now in
    let row = c.args.row.now in
    let boxes = c.args.boxes.now in
    made_of_graph graph c.graph.ensures.built_in c.graph.ensures.sound c.loop-cells.found.items
    (λ test. refuse_row test row boxes)
    (λ test is. gathered_all (refuse_row test row) boxes c.loop-cells.cells-index
    c.loop-cells.found.items (refuse_row test row boxes) refl c.loop-cells-test.false
    (c.loop-cells.invariant.1 test is))
    (λ test. refuse_of_graph graph test row boxes c.requires.row c.requires.boxes)
