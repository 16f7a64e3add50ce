use Rattle.std.proofs.Common.{◌∙◌, subst}
use Rattle.cd_model.specs.Formula.{Graph}
use Rattle.cd_empty.specs.Seen.{graph_of}
use Rattle.cd_empty.proofs.GrowingWorlds.{and_further}
use Rattle.cd_builders.specs.Inner.Outermost.{IsKept}
use Rattle.cd_builders.proofs.OutermostQuestions.{one_more_same, all_same}
use Rattle.cd_builders.proofs.outermost.one_way.Goals as goal

pub loop-question-preserved : goal.loop-question-preserved
loop-question-preserved c =
    let before = c.loop-question.invariant in
    let made = c.in_ok-keep.ensures in record {
      same = one_more_same (graph_of c.args.world.now) c.args.questions.now
          c.loop-question.question-index c.question-item.result c.loop-question-test.true
          c.question-item.is c.loop-question.kept.items c.keep.new.kept.items before.same
          (subst (λ (g : Graph). IsKept g c.question-item.result c.loop-question.kept.items
          c.keep.new.kept.items) before.graph made.kept);
      graph = made.graph ∙ before.graph;
      grows = and_further c.args.world.now c.loop-question.world c.keep.new.world before.grows
          made.grows;
    }

pub returns-clause-same : goal.returns-clause-same
returns-clause-same c = all_same (graph_of c.args.world.now) c.args.questions.now
    c.loop-question.question-index c.loop-question-test.false c.loop-question.kept.items
    c.loop-question.invariant.same
