use Rattle.std.proofs.Common.{◌++◌, map, refl, subst, sym, ap, ◌∙◌}
use Rattle.cd_empty.specs.Seen.{graph_of}
use Rattle.cd_products.specs.QuestionBoxes.{question_pieces, question_pieces_of}
use Rattle.cd_products.specs.Inner.PlainBoxes.{plain_box}
use Rattle.cd_products.specs.Inner.Tests.{IsBoxOfGraph}
use Rattle.cd_products.proofs.AtPlaces.{mapped_at}
use Rattle.cd_products.proofs.Gathering.{gathered}
use Rattle.cd_products.proofs.WorldsAfter.{and_after, test_after}
use Rattle.cd_products.proofs.refused.pieces.Goals as goal

pub pieces_of-requires : goal.pieces_of-requires
pieces_of-requires c =
    let graph = graph_of c.args.world.now in
    subst (λ graph. IsBoxOfGraph graph (plain_box c.clause-item.result))
    (sym c.loop-clause.invariant.0.graph)
    (mapped_at plain_box (IsBoxOfGraph graph) c.args.clauses.now c.loop-clause.clause-index
    c.clause-item.result c.requires c.loop-clause-test.true c.clause-item.is)

pub loop-clause-preserved : goal.loop-clause-preserved
loop-clause-preserved c =
    let so_far = c.loop-clause.invariant in
    let step = c.in_ok-boxes.ensures in (
      and_after _ _ _ so_far.0 step.after,
      λ test is. gathered (λ clause. question_pieces_of test (plain_box clause))
          (λ clauses. question_pieces test (map plain_box clauses)) (λ clause clauses. refl)
          c.args.clauses.now c.loop-clause.clause-index c.clause-item.result
          c.loop-clause.all.items _ c.loop-clause-test.true c.clause-item.is
          (c.in_ok-append.ensures.items ∙ ap (λ boxes. c.loop-clause.all.items ++ boxes)
          (step.exact test (test_after _ _ so_far.0 test is)))
          ∙ so_far.1 test is,
    )
