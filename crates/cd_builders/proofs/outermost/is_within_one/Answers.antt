use Rattle.std.proofs.Common.{subst}
use Rattle.cd_model.specs.Formula.{Graph}
use Rattle.cd_empty.specs.Seen.{graph_of}
use Rattle.cd_builders.specs.Inner.Outermost.{IsWithin}
use Rattle.cd_builders.proofs.OutermostQuestions.{within_one}
use Rattle.cd_builders.proofs.outermost.is_within_one.Goals as goal

pub returns-then-branch-clause-within : goal.returns-then-branch-clause-within
returns-then-branch-clause-within c told = within_one (graph_of c.args.world.now)
    c.args.question.now c.other-item.result c.args.others.now c.loop-other.other-index
    c.loop-other-test.true c.other-item.is
    (subst (λ (g : Graph). IsWithin g c.args.question.now c.other-item.result)
    c.loop-other.invariant.graph (c.in_ok-is_within.ensures.within c.if-branch.true))
