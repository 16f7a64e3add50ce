use Rattle.std.proofs.Common.{map, subst}
use Rattle.std.proofs.lemmas.Result.{IfOk-weaker}
use Rattle.cd_graph.specs.Nodes.{nodes}
use Rattle.cd_elements.specs.Table.{element_at}
use Rattle.cd_members.specs.Attempts.{IsAttempt}
use Rattle.cd_members.proofs.HeldIsLeft.{held_is_left}
use Rattle.cd_tasks.specs.PlainTask.{plain_task}
use Rattle.cd_empty.specs.Inner.Working.{IsReady, with_branch}
use Rattle.cd_empty.specs.Kept.{table}
use Rattle.cd_empty.proofs.BranchesTried.{made}
use Rattle.cd_empty.proofs.PairsAdded.{pair_worked}
use Rattle.cd_empty.proofs.SoundDeciders.{ready_again, sound_with_more}
use Rattle.cd_empty.proofs.decider.Decider.try_branch.Goals as goal
use Rattle.cd_empty.proofs.decider.Decider.try_branch.Goals.{After-attempt}

-- after the attempt all is as it has to be
ready : (c : After-attempt) → IsReady (nodes c.args.graph.now) c.attempt.new.self (with_branch c.args.branch c.args.frame.now)
ready c = ready_again (nodes c.args.graph.now) c.args.self.now c.attempt.new.self (with_branch c.args.branch c.args.frame.now)
    c.attempt.ensures.keeps c.attempt.ensures.sound c.requires.ready

-- the member that holds what was made is one of those left
pub split-requires-clause-place : goal.split-requires-clause-place
split-requires-clause-place c =
    let graph = nodes c.args.graph.now in
    held_is_left graph _ (plain_task c.args.branch) c.in-Held.place
    (subst (IsAttempt graph (table c.attempt.new.self) (plain_task c.args.branch) _) c.in-Held.is c.in_ok-place.ensures.attempt)

pub split-requires-clause-ready : goal.split-requires-clause-ready
split-requires-clause-ready c = ready (goal.at.split-requires-clause-ready c).After-attempt

pub returns-in-Made-clause-doing : goal.returns-in-Made-clause-doing
returns-in-Made-clause-doing c =
    let graph = nodes c.args.graph.now in
    let tried = subst (IsAttempt graph (table c.attempt.new.self) (plain_task c.args.branch) _) c.in-Made.is c.in_ok-place.ensures.attempt in
    made graph c.attempt.new.self c.args.frame.now c.args.branch c.args.frame.now c.in-Made.id
    (ready (goal.at.returns-in-Made-clause-doing c).After-attempt) tried.0 tried.1

pub add_pair-requires-clause-named : goal.add_pair-requires-clause-named
add_pair-requires-clause-named c = (ready (goal.at.add_pair-requires-clause-named c).After-attempt).fit.named

pub returns-in-Maps-clause-doing : goal.returns-in-Maps-clause-doing
returns-in-Maps-clause-doing c =
    let graph = nodes c.args.graph.now in
    let parts = map (element_at (table c.args.self.now)) c.args.ids.now in
    let tried = subst (IsAttempt graph (table c.attempt.new.self) (plain_task c.args.branch) parts) c.in-Maps.is
    c.in_ok-place.ensures.attempt in
    IfOk-weaker c.add_pair.result _ _ (λ doing adds.
    pair_worked graph c.attempt.new.self c.add_pair.new.self c.args.frame.now c.add_pair.new.frame c.args.branch parts c.in-Maps.from
    c.in-Maps.to doing (ready (goal.at.returns-in-Maps-clause-doing c).After-attempt) tried c.add_pair.ensures.adds adds) c.add_pair.ensures.adds_pair

pub returns-in-Maps-clause-sound : goal.returns-in-Maps-clause-sound
returns-in-Maps-clause-sound c =
    sound_with_more (nodes c.args.graph.now) c.attempt.new.self c.add_pair.new.self c.add_pair.ensures.adds c.attempt.ensures.sound
