use Rattle.std.proofs.Common.{[], ◌∷◌, ◌++◌, sym, ap, subst, ◌∙◌}
use Rattle.cd_graph.specs.Nodes.{nodes}
use Rattle.cd_empty.specs.Kept.{IsSound, witnesses}
use Rattle.cd_verdicts.specs.Verdicts.{family}
use Rattle.cd_empty.proofs.ElementsKept.{known_witnesses, sound_with_list}
use Rattle.cd_empty.proofs.OpenedQuestions.{stepped_by_basic}
use Rattle.cd_empty.proofs.RunningDeciders.{running_on, same_state, stepped_from}
use Rattle.cd_empty.proofs.decider.Decider.open.Goals as goal

-- an element is known
pub returns-then-branch-clause-stepped : goal.returns-then-branch-clause-stepped
returns-then-branch-clause-stepped c = stepped_by_basic (nodes c.args.graph.now) c.args.self.now c.know.new.self c.args.question
    c.args.frames.now c.requires.running c.requires.unknown c.know.ensures.keeps (rw c.if-branch.true at c.in_ok-know.ensures.known)

-- none is, and the same is known as before
pub assume-requires-clause-running : goal.assume-requires-clause-running
assume-requires-clause-running c =
    let none = rw c.if-branch.false at c.in_ok-know.ensures.known in
    running_on (nodes c.args.graph.now) c.args.self.now c.know.new.self c.args.frames.now c.requires.running c.know.ensures.sound none.0

pub returns-in_err-assume-clause-sound : goal.returns-in_err-assume-clause-sound
returns-in_err-assume-clause-sound c = let graph = nodes c.args.graph.now in subst (IsSound graph) (sym c.assume.ensures.same)
    (sound_with_list graph c.know.new.self c.assume.new.self.list c.know.ensures.sound)

pub returns-clause-sound : goal.returns-clause-sound
returns-clause-sound c = let graph = nodes c.args.graph.now in subst (IsSound graph) (sym c.assume.ensures.same)
    (sound_with_list graph c.know.new.self c.assume.new.self.list c.know.ensures.sound)

pub returns-clause-stepped : goal.returns-clause-stepped
returns-clause-stepped c =
    let graph = nodes c.args.graph.now in
    let none = rw c.if-branch.false at c.in_ok-know.ensures.known in
    stepped_from graph c.args.self.now c.know.new.self c.assume.new.self c.args.frames.now c.args.frames.now c.assume.new.frames
    (ap family none.0.kept) (same_state graph c.args.self.now c.know.new.self c.args.frames.now c.requires.running.sound none.0)
    c.in_ok-assume.ensures.stepped

pub returns-clause-opened : goal.returns-clause-opened
returns-clause-opened c =
    let none = rw c.if-branch.false at c.in_ok-know.ensures.known in (
      ap witnesses c.assume.ensures.same
          ∙ known_witnesses (nodes c.args.graph.now) c.args.self.now c.know.new.self c.requires.running.sound none.0,
      c.in_ok-assume.ensures.list ∙ ap (λ list. list ++ c.args.question ∷ []) none.0.list,
    )
