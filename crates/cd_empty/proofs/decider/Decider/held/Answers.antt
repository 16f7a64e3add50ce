use Rattle.std.proofs.Common.{refl, sym, [], append-nil}
use Rattle.cd_graph.specs.Nodes.{nodes}
use Rattle.cd_rules.specs.Tasks.{questions_of}
use Rattle.cd_tasks.specs.PlainTask.{plain_task}
use Rattle.cd_empty.specs.declared.decider.Decider.{Decider}
use Rattle.cd_empty.specs.Inner.Running.{KeepsKnown}
use Rattle.cd_empty.specs.Kept.{table}
use Rattle.cd_empty.proofs.KnownElements.{elements_named, elements_in_way}
use Rattle.cd_empty.proofs.SoundDeciders.{sound_again}
use Rattle.cd_empty.proofs.decider.Decider.held.Goals as goal

pub held_places-requires-clause-named : goal.held_places-requires-clause-named
held_places-requires-clause-named c =
    elements_named (nodes c.args.graph.now) c.args.self.now c.requires.sound c.args.ids.now (questions_of (plain_task c.args.branch.now)) c.requires.have

pub held_places-requires-clause-parts : goal.held_places-requires-clause-parts
held_places-requires-clause-parts c =
    elements_in_way (nodes c.args.graph.now) c.args.self.now c.requires.sound c.args.ids.now (questions_of (plain_task c.args.branch.now)) c.requires.have

pub returns-clause-sound : goal.returns-clause-sound
returns-clause-sound c =
    let before = c.args.self.now in
    let after : Decider = record before { facts = c.held_places.new.facts } in
    let keeps : KeepsKnown before after = record { table = ([], sym (append-nil (table before))); kept = refl; list = refl } in
    sound_again (nodes c.args.graph.now) before after keeps c.held_places.ensures.right c.requires.sound

pub returns-clause-keeps : goal.returns-clause-keeps
returns-clause-keeps c = record { table = ([], sym (append-nil (table c.args.self.now))); kept = refl; list = refl }
