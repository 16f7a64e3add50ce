use Rattle.std.proofs.Common.{◌++◌, length, map, refl, subst, sym, ap, ◌∙◌}
use Rattle.std.proofs.lemmas.List.{map-append}
use Rattle.cd_needs.specs.RecordTypes.{plain_row}
use Rattle.cd_empty.specs.Seen.{graph_of}
use Rattle.cd_products.proofs.WorldsAfter.{and_after, test_after}
use Rattle.cd_rows.specs.Inner.PlainClauses.{plain_row_clause}
use Rattle.cd_rows.specs.Inner.Refining.{ClauseAsks, rows_of_clause, rows_of_clauses}
use Rattle.cd_products.proofs.AtPlaces.{mapped_at}
use Rattle.cd_products.proofs.Gathering.{gathered}
use Rattle.cd_rows.proofs.refused.rows_of.Goals as goal

pub rows_of_one-requires : goal.rows_of_one-requires
rows_of_one-requires c =
    let graph = graph_of c.args.world.now in
    subst (λ graph. ClauseAsks (length graph) (plain_row_clause c.clause-item.result))
    (sym c.loop-clause.invariant.0.graph)
    (mapped_at plain_row_clause (ClauseAsks (length graph)) c.args.clauses.now
    c.loop-clause.clause-index c.clause-item.result c.requires c.loop-clause-test.true
    c.clause-item.is)

pub loop-clause-preserved : goal.loop-clause-preserved
loop-clause-preserved c =
    let so_far = c.loop-clause.invariant in
    let step = c.in_ok-rows.ensures in
    let old = c.loop-clause.all.items in (
      and_after _ _ _ so_far.0 step.after,
      λ test is. gathered (λ clause. rows_of_clause test (plain_row_clause clause))
          (λ clauses. rows_of_clauses test (map plain_row_clause clauses))
          (λ clause clauses. refl) c.args.clauses.now c.loop-clause.clause-index
          c.clause-item.result (map plain_row old) _ c.loop-clause-test.true c.clause-item.is
          (ap (map plain_row) c.in_ok-append.ensures.items
          ∙ map-append plain_row old _
          ∙ ap (λ rows. map plain_row old ++ rows)
          (step.exact test (test_after _ _ so_far.0 test is)))
          ∙ so_far.1 test is,
    )
