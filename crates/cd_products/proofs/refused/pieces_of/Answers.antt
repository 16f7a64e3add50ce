use Rattle.std.proofs.Common.{◌<◌, ◌∷◌, ◌+◌, List, Vec, Global, length, drop, map}
use Rattle.std.proofs.Common.{refl, subst, sym, ap, ◌∙◌}
use Rattle.std.proofs.lemmas.List.{at_drop_more, at_drop_all}
use Rattle.std.proofs.Math.Path.{ap₂}
use Rattle.cd_sets.specs.declared.node_id.NodeId.{NodeId}
use Rattle.cd_model.specs.AllOf.{AllOf}
use Rattle.cd_empty.specs.Seen.{graph_of}
use Rattle.cd_products.specs.Inner.Tests.{refuse_row, refuse_rows}
use Rattle.cd_products.proofs.AtPlaces.{mapped_at}
use Rattle.cd_products.proofs.MadeOfGraphs.{of_same_graph}
use Rattle.cd_products.proofs.WorldsAfter.{and_after, test_after}
use Rattle.cd_products.proofs.refused.pieces_of.Goals as goal

abbrev row_list : Vec NodeId Global → List NodeId
row_list row = row.items

pub refuse-requires-clause-row : goal.refuse-requires-clause-row
refuse-requires-clause-row c =
    let graph = graph_of c.args.world.now in
    let rows = c.as_slice-row-items.result.now in
    subst (λ graph. AllOf (λ (id : NodeId). id.0 < length graph) c.as_slice.result.now)
    (sym c.loop-row.invariant.0.graph)
    (subst (AllOf (λ (id : NodeId). id.0 < length graph)) (sym c.as_slice.ensures.value)
    (mapped_at row_list (AllOf (λ id. id.0 < length graph)) rows c.loop-row.row-index
    c.row-item.result
    (subst (λ rows. AllOf (AllOf (λ (id : NodeId). id.0 < length graph)) (map row_list rows))
    (sym c.as_slice-row-items.ensures.value) c.requires.1)
    c.loop-row-test.true c.row-item.is))

pub refuse-requires-clause-boxes : goal.refuse-requires-clause-boxes
refuse-requires-clause-boxes c =
    of_same_graph _ _ _ c.loop-row.boxes.items c.loop-row.invariant.0.graph
    c.as_slice-in-loop-row.ensures.value c.loop-row.invariant.2

pub returns-in_err-boxes-2-clause-after : goal.returns-in_err-boxes-2-clause-after
returns-in_err-boxes-2-clause-after c =
    and_after _ _ _ c.loop-row.invariant.0 c.in_err-boxes-2.ensures.after

pub loop-row-preserved : goal.loop-row-preserved
loop-row-preserved c =
    let rows = c.as_slice-row-items.result.now in
    let place = c.loop-row.row-index in
    let row = c.row-item.result in
    let boxes = c.loop-row.boxes.items in
    let so_far = c.loop-row.invariant in
    let step = c.in_ok-boxes-2.ensures in (
      and_after _ _ _ so_far.0 step.after,
      λ test is. ap (refuse_rows test (map row_list (drop (place + 1) rows)))
          (step.exact test (test_after _ _ so_far.0 test is)
          ∙ ap₂ (refuse_row test) c.as_slice.ensures.value c.as_slice-in-loop-row.ensures.value)
          ∙ ap (λ row. refuse_rows test (map row_list (row ∷ drop (place + 1) rows)) boxes)
          c.row-item.is
          ∙ sym (at_drop_more (λ rows. refuse_rows test (map row_list rows) boxes) rows place row
          c.loop-row-test.true)
          ∙ so_far.1 test is,
      of_same_graph _ _ _ _ (sym so_far.0.graph) refl step.of_graph,
    )

pub returns-clause-exact : goal.returns-clause-exact
returns-clause-exact c test is =
    let rows = c.as_slice-row-items.result.now in
    let boxes = c.loop-row.boxes.items in
    sym (at_drop_all (λ rows. refuse_rows test (map row_list rows) boxes) rows c.loop-row.row-index
    c.loop-row-test.false)
    ∙ c.loop-row.invariant.1 test is
