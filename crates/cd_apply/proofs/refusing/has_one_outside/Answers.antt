use Rattle.std.proofs.Common.{refl, ◌∙◌}
use Rattle.cd_empty.specs.Seen.{graph_of}
use Rattle.cd_empty.proofs.GrowingWorlds.{and_further}
use Rattle.cd_apply.proofs.RefusedArrows.{inside_by, outside_by, none_further, one_outside}
use Rattle.cd_apply.proofs.refusing.has_one_outside.Goals as goal

pub returns-then-not-branch-clause-has : goal.returns-then-not-branch-clause-has
returns-then-not-branch-clause-has c =
    let graph = graph_of c.args.world.now in
    let one = c.question-item.result in
    let found = one_outside graph c.args.questions.now c.args.id c.loop-question.question-index one
    c.loop-question-test.true c.question-item.is
    (outside_by graph (graph_of c.loop-question.world) c.loop-question.invariant.graph one c.args.id
    c.in_ok-is_inside.field-0 c.in_ok-is_inside.ensures.inside c.if-not-branch.true) in
    (λ is. found, λ has. refl)

pub loop-question-preserved : goal.loop-question-preserved
loop-question-preserved c =
    let graph = graph_of c.args.world.now in
    let one = c.question-item.result in
    let so_far = c.loop-question.invariant in record {
      none = none_further graph c.args.questions.now c.args.id c.loop-question.question-index one
          c.loop-question-test.true c.question-item.is
          (inside_by graph (graph_of c.loop-question.world) so_far.graph one c.args.id
          c.in_ok-is_inside.field-0 c.in_ok-is_inside.ensures.inside c.if-not-branch.false)
          so_far.none;
      graph = c.in_ok-is_inside.ensures.graph ∙ so_far.graph;
      grows = and_further _ _ _ so_far.grows c.in_ok-is_inside.ensures.grows;
    }
