use Rattle.std.proofs.Common.{subst}
use Rattle.std.proofs.lemmas.Result.{IfOk-weaker}
use Rattle.cd_empty.specs.Seen.{graph_of}
use Rattle.cd_explored.specs.Inner.Choices.{HasNothing}
use Rattle.cd_explored.proofs.first.are_apart.Goals as goal

pub returns-clause-apart : goal.returns-clause-apart
returns-clause-apart c = IfOk-weaker c.has_nothing.result _ _
    (λ answer none is. subst (HasNothing (graph_of c.args.world.now)) c.in_ok-both.ensures (none is))
    c.has_nothing.ensures.nothing
