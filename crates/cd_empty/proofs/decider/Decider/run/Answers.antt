use Rattle.std.proofs.Common.{sym, subst}
use Rattle.cd_sets.specs.declared.question.Question.{Question}
use Rattle.cd_graph.specs.Nodes.{nodes}
use Rattle.cd_rules.specs.Right.{HasFirst}
use Rattle.cd_empty.specs.Inner.PlainFrame.{state_of}
use Rattle.cd_empty.specs.Inner.Running.{IsRunning}
use Rattle.cd_empty.proofs.OpenedQuestions.{has_first}
use Rattle.cd_empty.proofs.ProgressOfRuns.{first_at_end}
use Rattle.cd_empty.proofs.RunningDeciders.{runs_at_first, runs_on}
use Rattle.cd_empty.proofs.decider.Decider.run.Goals as goal

pub open-requires-clause-running : goal.open-requires-clause-running
open-requires-clause-running c = let graph = nodes c.args.graph.now in
    subst (IsRunning graph c.args.self.now) (sym c.new-frames.ensures)
    (runs_at_first graph c.args.self.now c.requires.sound c.requires.start)

pub to_end-requires : goal.to_end-requires
to_end-requires c =
    let graph = nodes c.args.graph.now in
    let running = subst (IsRunning graph c.args.self.now) (sym c.new-frames.ensures)
    (runs_at_first graph c.args.self.now c.requires.sound c.requires.start) in
    (runs_on graph c.args.self.now c.open.new.self c.new-frames.result c.open.new.frames running c.open.ensures.sound
    c.open.ensures.keeps c.in_ok-open.ensures.stepped).running

-- the question is the first of the list, or it has an element
pub returns-clause-first : goal.returns-clause-first
returns-clause-first c =
    let graph = nodes c.args.graph.now in
    let opened = has_first graph c.args.self.now c.open.new.self c.in_ok-copy.field-0 c.in_ok-open.field-0 c.open.new.frames
    c.requires.start c.in_ok-open.ensures.opened in
    first_at_end c.to_end.result graph c.open.new.self c.to_end.new.self c.open.new.frames c.to_end.new.frames c.args.question.now
    (subst (λ (question : Question). HasFirst question (state_of c.open.new.self c.open.new.frames)) c.in_ok-copy.ensures opened)
    c.to_end.ensures.ran c.to_end.ensures.end
