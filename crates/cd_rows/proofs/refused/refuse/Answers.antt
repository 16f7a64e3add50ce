use Rattle.std.proofs.Common.{◌++◌, length, map, refl, ap, ◌∙◌}
use Rattle.cd_needs.specs.RecordType.{record_type}
use Rattle.cd_needs.specs.RecordTypes.{plain_row}
use Rattle.cd_empty.specs.Seen.{graph_of}
use Rattle.cd_products.proofs.WorldsAfter.{and_after, test_after}
use Rattle.cd_rows.specs.RecordRows.{RowAsksNodes}
use Rattle.cd_rows.specs.Inner.Refining.{less_row, keep, refuse}
use Rattle.cd_products.proofs.AtPlaces.{mapped_at}
use Rattle.cd_products.proofs.Gathering.{gathered, gathered_all}
use Rattle.cd_rows.proofs.KeptRows.{made_ask, ask_same}
use Rattle.cd_rows.proofs.RowsOfGraphs.{less_asks, refuse_asks}
use Rattle.cd_rows.proofs.refused.refuse.Goals as goal

pub keep-requires : goal.keep-requires
keep-requires c =
    let graph = graph_of c.args.world.now in
    let type = record_type c.args.refused.now in
    let row = plain_row c.row-item.result in
    ask_same graph _ _ (less_row type row) c.loop-row.invariant.0.graph
    (ap (map plain_row) c.as_slice.ensures.value ∙ c.in_ok-parts.ensures)
    (less_asks (length graph) type c.requires.within row
    (mapped_at plain_row (RowAsksNodes (length graph)) c.args.rows.now c.loop-row.row-index
    c.row-item.result c.requires.rows c.loop-row-test.true c.row-item.is))

pub loop-row-preserved : goal.loop-row-preserved
loop-row-preserved c =
    let type = record_type c.args.refused.now in
    let so_far = c.loop-row.invariant in
    let step = c.in_ok-keep.ensures in (
      and_after _ _ _ so_far.0 step.after,
      λ test is. gathered (λ row. keep test (less_row type (plain_row row)))
          (λ rows. refuse test type (map plain_row rows)) (λ row rows. refl) c.args.rows.now
          c.loop-row.row-index c.row-item.result (map plain_row c.loop-row.found.items) _
          c.loop-row-test.true c.row-item.is
          (step.exact test (test_after _ _ so_far.0 test is)
          ∙ ap (λ rows. map plain_row c.loop-row.found.items ++ keep test rows)
          (ap (map plain_row) c.as_slice.ensures.value ∙ c.in_ok-parts.ensures))
          ∙ so_far.1 test is,
    )

pub returns-clause-of_graph : goal.returns-clause-of_graph
returns-clause-of_graph c =
    let graph = graph_of c.args.world.now in
    let type = record_type c.args.refused.now in
    let rows = c.args.rows.now in
    let found = map plain_row c.loop-row.found.items in
    made_ask graph c.graph.ensures.built_in c.graph.ensures.sound found
    (λ test. refuse test type (map plain_row rows))
    (λ test is. gathered_all (λ rows. refuse test type (map plain_row rows)) rows
    c.loop-row.row-index found (refuse test type (map plain_row rows)) refl
    c.loop-row-test.false (c.loop-row.invariant.1 test is))
    (λ test. refuse_asks (length graph) test type c.requires.within (map plain_row rows)
    c.requires.rows)
