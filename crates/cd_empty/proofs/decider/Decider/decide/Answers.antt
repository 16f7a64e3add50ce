use Rattle.cd_graph.specs.Nodes.{nodes}
use Rattle.cd_empty.proofs.DecisionsEnd.{can_settle, sound_settled, never_without}
use Rattle.cd_empty.proofs.decider.Decider.decide.Goals as goal

-- the questions of the list differ from those that have verdicts
pub settle-requires : goal.settle-requires
settle-requires c = can_settle (nodes c.args.graph.now) c.run.new.self c.run.ensures.sound c.in_ok-run.ensures.right

pub returns-clause-sound : goal.returns-clause-sound
returns-clause-sound c = sound_settled (nodes c.args.graph.now) c.run.new.self c.run.ensures.sound c.in_ok-run.ensures.right
    c.settle.new.self c.in_ok-settle.ensures.settled

-- the question has a verdict, since it has a witness or was the first of the list
pub unreachable-requires : goal.unreachable-requires
unreachable-requires c = never_without c.run.new.self c.args.question.now c.settle.new.self c.in_ok-run.ensures.first
    c.in_ok-settle.ensures.settled c.in-None.ensures
