use Rattle.std.proofs.Common.{map, subst}
use Rattle.cd_graph.specs.Nodes.{nodes}
use Rattle.cd_elements.specs.Table.{element_at}
use Rattle.cd_members.specs.Attempts.{IsAttempt}
use Rattle.cd_rules.specs.Tasks.{questions_of}
use Rattle.cd_tasks.specs.PlainTask.{plain_task}
use Rattle.cd_empty.specs.Kept.{table}
use Rattle.cd_empty.proofs.ChosenPlaces.{have_again, keeps_on, same_parts, is_held}
use Rattle.cd_empty.proofs.KnownElements.{elements_named}
use Rattle.cd_empty.proofs.decider.Decider.attempt.Goals as goal

pub choose-requires-clause-have : goal.choose-requires-clause-have
choose-requires-clause-have c = have_again c.args.self.now c.first_attempt.new.self c.first_attempt.ensures.keeps.kept c.args.ids.now
    (questions_of (plain_task c.args.branch.now)) c.requires.have

pub returns-in_ok-place-in-Held-clause-attempt : goal.returns-in_ok-place-in-Held-clause-attempt
returns-in_ok-place-in-Held-clause-attempt c =
    let graph = nodes c.args.graph.now in
    let before = c.args.self.now in
    let middle = c.first_attempt.new.self in
    let ids = c.args.ids.now in
    let task = plain_task c.args.branch.now in
    let parts = map (element_at (table before)) ids in
    let named = elements_named graph before c.requires.sound ids (questions_of task) c.requires.have in
    let tried = subst (IsAttempt graph (table middle) task parts) c.in-Held.is c.in_ok-attempt.ensures.attempt in
    is_held graph parts (map (element_at (table middle)) ids) task c.in-Held.place c.in_ok-place-in-Held.place
    (same_parts before middle c.first_attempt.ensures.keeps ids named) tried c.in_ok-place-in-Held.ensures.held

pub returns-in_ok-place-in-Held-clause-keeps : goal.returns-in_ok-place-in-Held-clause-keeps
returns-in_ok-place-in-Held-clause-keeps c =
    keeps_on c.args.self.now c.first_attempt.new.self c.choose.new.self c.first_attempt.ensures.keeps c.choose.ensures.keeps
