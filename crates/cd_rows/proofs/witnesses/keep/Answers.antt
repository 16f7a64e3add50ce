use Rattle.std.proofs.Common.{[], ◌∷◌, map, subst, sym, ◌∙◌, length}
use Rattle.cd_needs.specs.RecordTypes.{plain_row}
use Rattle.cd_empty.specs.Seen.{graph_of}
use Rattle.cd_products.proofs.WorldsAfter.{and_after, test_after}
use Rattle.cd_rows.specs.Inner.Refining.{keep}
use Rattle.cd_rows.specs.RecordRows.{RowAsksNodes}
use Rattle.cd_products.proofs.AtPlaces.{mapped_at}
use Rattle.cd_products.proofs.Gathering.{gathered}
use Rattle.cd_rows.proofs.KeptRows.{keep_apart}
use Rattle.cd_rows.proofs.witnesses.keep.Goals as goal

pub keep_one-requires : goal.keep_one-requires
keep_one-requires c =
    subst (λ graph. RowAsksNodes (length graph) (plain_row c.row-item.result))
    (sym c.loop-row.invariant.0.graph)
    (mapped_at plain_row (RowAsksNodes (length (graph_of c.args.world.now))) c.args.rows.now
    c.loop-row.row-index c.row-item.result c.requires c.loop-row-test.true c.row-item.is)

pub loop-row-preserved : goal.loop-row-preserved
loop-row-preserved c =
    let so_far = c.loop-row.invariant in
    let step = c.in_ok-keep_one.ensures in (
      and_after _ _ _ so_far.0 step.after,
      λ test is. gathered (λ row. keep test (plain_row row ∷ []))
          (λ rows. keep test (map plain_row rows))
          (λ row rows. keep_apart test (plain_row row) (map plain_row rows)) c.args.rows.now
          c.loop-row.row-index c.row-item.result (map plain_row c.loop-row.kept.items) _
          c.loop-row-test.true c.row-item.is
          (step.exact test (test_after _ _ so_far.0 test is))
          ∙ so_far.1 test is,
    )
