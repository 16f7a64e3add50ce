use Rattle.std.proofs.Common.{refl}
use Rattle.cd_graph.specs.Nodes.{nodes}
use Rattle.cd_rules.specs.Tasks.{questions_of}
use Rattle.cd_tasks.specs.PlainTask.{plain_task}
use Rattle.cd_empty.specs.declared.decider.Decider.{Decider}
use Rattle.cd_empty.specs.Inner.Running.{KeepsKnown}
use Rattle.cd_empty.proofs.KnownElements.{elements_named, elements_in_way}
use Rattle.cd_empty.proofs.SoundDeciders.{sound_again}
use Rattle.cd_empty.proofs.decider.Decider.first_attempt.Goals as goal

pub attempt_task-requires-clause-named : goal.attempt_task-requires-clause-named
attempt_task-requires-clause-named c =
    elements_named (nodes c.args.graph.now) c.args.self.now c.requires.sound c.args.ids.now (questions_of (plain_task c.args.branch.now)) c.requires.have

pub attempt_task-requires-clause-parts : goal.attempt_task-requires-clause-parts
attempt_task-requires-clause-parts c =
    elements_in_way (nodes c.args.graph.now) c.args.self.now c.requires.sound c.args.ids.now (questions_of (plain_task c.args.branch.now)) c.requires.have

pub returns-clause-sound : goal.returns-clause-sound
returns-clause-sound c =
    let before = c.args.self.now in
    let after : Decider = record before { elements = c.attempt_task.new.elements; facts = c.attempt_task.new.facts } in
    let keeps : KeepsKnown before after = record { table = c.attempt_task.ensures.grows; kept = refl; list = refl } in
    sound_again (nodes c.args.graph.now) before after keeps c.attempt_task.ensures.right c.requires.sound
