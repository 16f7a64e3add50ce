use Rattle.std.proofs.Common.{length, map, sym, subst}
use Rattle.cd_model.specs.Formula.{Graph}
use Rattle.cd_needs.specs.RecordTypes.{plain_row}
use Rattle.cd_empty.specs.Seen.{graph_of}
use Rattle.cd_products.proofs.WorldsAfter.{and_after}
use Rattle.cd_rows.specs.RecordRows.{RowAsksNodes}
use Rattle.cd_records.specs.Inner.Plain.{plain_rest}
use Rattle.cd_records.specs.Inner.Rests.{AddsRests}
use Rattle.cd_records.proofs.LoopsOfChoices.{rests_all, rests_more}
use Rattle.cd_records.proofs.Zips.{mapped_at}
use Rattle.cd_records.proofs.rests.rests_of.Goals as goal

pub add_rests-requires : goal.add_rests-requires
add_rests-requires c =
    subst (λ (g : Graph). RowAsksNodes (length g) (plain_row c.row-item.result))
    (sym c.loop-row.invariant.after.graph)
    (mapped_at plain_row (RowAsksNodes (length (graph_of c.args.world.now))) c.args.rows.now
    c.loop-row.row-index c.row-item.result c.requires.asks c.loop-row-test.true c.row-item.is)

pub loop-row-preserved : goal.loop-row-preserved
loop-row-preserved c =
    let so_far = c.loop-row.invariant in
    let made = c.in_ok-add_rests.ensures in
    let old = map plain_rest c.loop-row.rests.items in
    let new = map plain_rest c.add_rests.new.rests.items in
    record {
      after = and_after _ _ _ so_far.after made.after;
      rests = rests_more (graph_of c.args.world.now) c.args.label.now c.args.rows.now
          c.loop-row.row-index c.row-item.result c.loop-row-test.true c.row-item.is old new
          (subst (λ (g : Graph). AddsRests g c.args.label.now (plain_row c.row-item.result) old new)
          so_far.after.graph made.adds) so_far.rests;
    }

pub returns-clause-rests : goal.returns-clause-rests
returns-clause-rests c = rests_all (graph_of c.args.world.now) c.args.label.now c.args.rows.now
    c.loop-row.row-index c.loop-row-test.false (map plain_rest c.loop-row.rests.items)
    c.loop-row.invariant.rests
