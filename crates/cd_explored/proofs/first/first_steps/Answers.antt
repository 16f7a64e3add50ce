use Rattle.std.proofs.Common.{sym, subst}
use Rattle.std.proofs.lemmas.Result.{IfOk-weaker}
use Rattle.cd_matching.specs.Kernel.{First}
use Rattle.cd_matching.specs.PlainKernel.{plain_kernel, plain_nodes}
use Rattle.cd_empty.specs.Seen.{graph_of}
use Rattle.cd_explored.specs.Inner.Choices.{IsChoice}
use Rattle.cd_explored.specs.Inner.NodeSteps.{AreNodeSteps}
use Rattle.cd_explored.proofs.ChosenNodes.{choice_at}
use Rattle.cd_explored.proofs.ChoicesNarrowed.{taken_narrowed}
use Rattle.cd_explored.proofs.FirstSteps.{steps_of_chosen}
use Rattle.cd_explored.proofs.first.first_steps.Goals as goal
use Rattle.cd_explored.proofs.first.first_steps.Goals.{After-accepting-3}

-- the nodes that accept what the node takes, and its two nodes
choice : (c : After-accepting-3) → IsChoice (graph_of c.args.world.now) c.accepting.result
    c.accepting-2.result c.accepting-3.result
choice c = choice_at (graph_of c.args.world.now) (plain_kernel c.args.base.now.kernel.now)
    c.args.base.now.first c.requires.accepted c.args.number c.args.first c.args.second
    c.requires.there c.graph-graph.ensures.built_in.0 c.graph-graph.ensures.built_in.1
    c.graph-graph.ensures.sound c.requires.first c.requires.second c.accepting.result c.accepting-2.result
    c.accepting-3.result c.accepting.ensures c.accepting-2.ensures c.accepting-3.ensures

pub others-requires-clause-choice : goal.others-requires-clause-choice
others-requires-clause-choice c =
    choice (goal.at.others-requires-clause-choice c).After-accepting-3

pub others-requires-clause-taken : goal.others-requires-clause-taken
others-requires-clause-taken c = taken_narrowed (graph_of c.args.world.now) c.accepting.result
    c.accepting-2.result c.accepting-3.result
    (choice (goal.at.others-requires-clause-taken c).After-accepting-3) c.args.question.now
    c.requires.asks c.in_ok-wanted.wanted c.in_ok-taken.taken c.in_ok-wanted.ensures
    c.in_ok-taken.ensures

pub returns-clause-steps : goal.returns-clause-steps
returns-clause-steps c =
    let graph = graph_of c.args.world.now in
    let nodes = plain_nodes c.args.base.now.kernel.now.nodes.items in
    let choice = choice (goal.at.returns-clause-steps c).After-accepting-3 in
    IfOk-weaker c.lead_to_two.result _ _
    (λ leads same. subst
    (AreNodeSteps graph nodes c.args.base.now.first c.args.question.now
    (First c.args.first c.args.second)) (sym same)
    (steps_of_chosen graph nodes c.args.base.now.first c.args.first c.args.second
    c.args.question.now c.in_ok-taken.taken c.in_ok-others.others c.accepting-2.result
    c.requires.first c.requires.second c.accepting-2.ensures
    (taken_narrowed graph c.accepting.result c.accepting-2.result c.accepting-3.result choice
    c.args.question.now c.requires.asks c.in_ok-wanted.wanted c.in_ok-taken.taken
    c.in_ok-wanted.ensures c.in_ok-taken.ensures)
    c.in_ok-others.ensures.others))
    c.lead_to_two.ensures
