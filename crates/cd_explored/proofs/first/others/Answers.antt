use Rattle.std.proofs.lemmas.Result.{IfOk-weaker}
use Rattle.cd_empty.specs.Seen.{graph_of}
use Rattle.cd_explored.proofs.ChoicesNarrowed.{rest_narrowed}
use Rattle.cd_explored.proofs.first.others.Goals as goal

pub returns-else-branch-clause-others : goal.returns-else-branch-clause-others
returns-else-branch-clause-others c = IfOk-weaker c.without.result _ _
    (rest_narrowed (graph_of c.args.world.now) c.args.choice.own c.args.choice.first
    c.args.choice.second c.requires.choice c.args.question.now c.requires.asks c.in_ok-rest.rest
    c.in_ok-rest.ensures)
    c.without.ensures
