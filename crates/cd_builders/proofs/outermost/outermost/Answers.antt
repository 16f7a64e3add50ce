use Rattle.std.proofs.Common.{length, sym, subst}
use Rattle.cd_model.specs.AllOf.{AllOf}
use Rattle.cd_model.specs.Formula.{Graph}
use Rattle.cd_rules.specs.Family.{AsksNodes}
use Rattle.cd_empty.specs.Seen.{graph_of}
use Rattle.cd_empty.proofs.GrowingWorlds.{and_further}
use Rattle.cd_builders.specs.Inner.Outermost.{AskSame}
use Rattle.cd_builders.proofs.OutermostQuestions.{same_twice}
use Rattle.cd_builders.proofs.outermost.outermost.Goals as goal

pub one_way-requires-2 : goal.one_way-requires-2
one_way-requires-2 c =
    subst (λ (g : Graph). AllOf (AsksNodes (length g)) c.as_slice.result.now)
    (sym c.in_ok-backwards.ensures.graph)
    (subst (AllOf (AsksNodes (length (graph_of c.args.world.now)))) (sym c.as_slice.ensures.value)
    c.in_ok-backwards.ensures.same.asks)

pub returns-clause-same : goal.returns-clause-same
returns-clause-same c = same_twice (graph_of c.args.world.now) c.args.questions.now
    c.in_ok-backwards.backwards.items c.in_ok-one_way.field-0.items c.as_slice.result.now
    c.in_ok-backwards.ensures.same c.as_slice.ensures.value
    (subst (λ (g : Graph). AskSame g c.as_slice.result.now c.in_ok-one_way.field-0.items)
    c.in_ok-backwards.ensures.graph c.in_ok-one_way.ensures.same)

pub returns-clause-grows : goal.returns-clause-grows
returns-clause-grows c = and_further c.args.world.now c.one_way.new.world c.one_way-2.new.world
    c.in_ok-backwards.ensures.grows c.in_ok-one_way.ensures.grows
