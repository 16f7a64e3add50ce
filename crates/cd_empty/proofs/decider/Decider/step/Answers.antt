use Rattle.std.proofs.Common.{◌≡◌, ◌∷◌, sym, ap, ◌∙◌}
use Rattle.cd_graph.specs.Nodes.{nodes}
use Rattle.cd_empty.specs.declared.frame.Frame.{Frame}
use Rattle.cd_empty.specs.Kept.{table}
use Rattle.cd_empty.proofs.StepsTaken.{gone_by_work, gone_by_end, still_runs, gone_by_question, has_no_verdict, still_sound, still_keeps, gone_by_element}
use Rattle.cd_empty.proofs.decider.Decider.step.Goals as goal
use Rattle.cd_empty.proofs.decider.Decider.step.Goals.{After-work_at}

-- the frame that was worked at stood on the others
begun : (c : After-work_at) → c.args.frames.now ≡ c.deref_mut.result.now ∷ c.pop.new.self
begun c = c.in-Some.ensures ∙ ap (λ (first : Frame). first ∷ c.pop.new.self) (sym c.deref_mut.ensures.value)

-- one thing was done
pub returns-in_ok-push-in-Worked-clause-ran : goal.returns-in_ok-push-in-Worked-clause-ran
returns-in_ok-push-in-Worked-clause-ran c =
    let call = c.work_at.ensures in
    let done = rw c.in-Worked.is at c.in_ok-work_at.ensures.doing in
    (gone_by_work (nodes c.args.graph.now) c.args.self.now c.work_at.new.self c.deref_mut.result.now c.work_at.new.frame c.pop.new.self
    c.args.frames.now (begun (goal.at.returns-in_ok-push-in-Worked-clause-ran c).After-work_at)
    c.requires call.sound call.keeps call.question call.place c.push.new.self
    c.in_ok-push-in-Worked.ensures done).0

pub returns-in_ok-push-in-Worked-clause-gone : goal.returns-in_ok-push-in-Worked-clause-gone
returns-in_ok-push-in-Worked-clause-gone c =
    let call = c.work_at.ensures in
    let done = rw c.in-Worked.is at c.in_ok-work_at.ensures.doing in
    (gone_by_work (nodes c.args.graph.now) c.args.self.now c.work_at.new.self c.deref_mut.result.now c.work_at.new.frame c.pop.new.self
    c.args.frames.now (begun (goal.at.returns-in_ok-push-in-Worked-clause-gone c).After-work_at)
    c.requires call.sound call.keeps call.question call.place c.push.new.self
    c.in_ok-push-in-Worked.ensures done).1

-- nothing was left to do
pub returns-in-Nothing-clause-ran : goal.returns-in-Nothing-clause-ran
returns-in-Nothing-clause-ran c =
    let call = c.work_at.ensures in
    let done = rw c.in-Nothing.is at c.in_ok-work_at.ensures.doing in
    (gone_by_end (nodes c.args.graph.now) c.args.self.now c.work_at.new.self c.deref_mut.result.now c.work_at.new.frame c.pop.new.self
    c.args.frames.now (begun (goal.at.returns-in-Nothing-clause-ran c).After-work_at)
    c.requires call.sound call.keeps call.question call.place done).0

pub returns-in-Nothing-clause-gone : goal.returns-in-Nothing-clause-gone
returns-in-Nothing-clause-gone c =
    let call = c.work_at.ensures in
    let done = rw c.in-Nothing.is at c.in_ok-work_at.ensures.doing in
    (gone_by_end (nodes c.args.graph.now) c.args.self.now c.work_at.new.self c.deref_mut.result.now c.work_at.new.frame c.pop.new.self
    c.args.frames.now (begun (goal.at.returns-in-Nothing-clause-gone c).After-work_at)
    c.requires call.sound call.keeps call.question call.place done).1

-- a question is wanted
pub open-requires-clause-running : goal.open-requires-clause-running
open-requires-clause-running c =
    let call = c.work_at.ensures in
    let wants = rw c.in-Wants.is at c.in_ok-work_at.ensures.doing in
    still_runs (nodes c.args.graph.now) c.args.self.now c.work_at.new.self c.deref_mut.result.now c.work_at.new.frame c.pop.new.self
    c.args.frames.now (begun (goal.at.open-requires-clause-running c).After-work_at)
    c.requires call.sound call.keeps call.question call.place c.push-in-Wants.new.self
    c.in_ok-push-in-Wants.ensures c.in-Wants.question wants

pub returns-in_ok-open-in-Wants-clause-ran : goal.returns-in_ok-open-in-Wants-clause-ran
returns-in_ok-open-in-Wants-clause-ran c =
    let call = c.work_at.ensures in
    let wants = rw c.in-Wants.is at c.in_ok-work_at.ensures.doing in
    (gone_by_question (nodes c.args.graph.now) c.args.self.now c.work_at.new.self c.deref_mut.result.now c.work_at.new.frame c.pop.new.self
    c.args.frames.now (begun (goal.at.returns-in_ok-open-in-Wants-clause-ran c).After-work_at)
    c.requires call.sound call.keeps call.question call.place c.push-in-Wants.new.self
    c.in_ok-push-in-Wants.ensures c.in-Wants.question wants c.open.new.self c.open.new.frames _ c.open.ensures.sound c.open.ensures.keeps
    c.in_ok-open-in-Wants.ensures.stepped c.in_ok-open-in-Wants.ensures.opened).0

pub returns-in_ok-open-in-Wants-clause-gone : goal.returns-in_ok-open-in-Wants-clause-gone
returns-in_ok-open-in-Wants-clause-gone c =
    let call = c.work_at.ensures in
    let wants = rw c.in-Wants.is at c.in_ok-work_at.ensures.doing in
    (gone_by_question (nodes c.args.graph.now) c.args.self.now c.work_at.new.self c.deref_mut.result.now c.work_at.new.frame c.pop.new.self
    c.args.frames.now (begun (goal.at.returns-in_ok-open-in-Wants-clause-gone c).After-work_at)
    c.requires call.sound call.keeps call.question call.place c.push-in-Wants.new.self
    c.in_ok-push-in-Wants.ensures c.in-Wants.question wants c.open.new.self c.open.new.frames _ c.open.ensures.sound c.open.ensures.keeps
    c.in_ok-open-in-Wants.ensures.stepped c.in_ok-open-in-Wants.ensures.opened).1

-- an element was found
pub find-requires : goal.find-requires
find-requires c =
    let call = c.work_at.ensures in
    has_no_verdict (nodes c.args.graph.now) c.args.self.now c.work_at.new.self c.deref_mut.result.now c.work_at.new.frame c.pop.new.self
    c.args.frames.now (begun (goal.at.find-requires c).After-work_at)
    c.requires call.sound call.keeps call.question call.place

pub returns-in_ok-find-in-Found-clause-sound : goal.returns-in_ok-find-in-Found-clause-sound
returns-in_ok-find-in-Found-clause-sound c =
    let call = c.work_at.ensures in
    let found = rw c.in-Found.is at c.in_ok-work_at.ensures.doing in
    still_sound (nodes c.args.graph.now) c.args.self.now c.work_at.new.self c.deref_mut.result.now c.work_at.new.frame c.pop.new.self
    c.args.frames.now (begun (goal.at.returns-in_ok-find-in-Found-clause-sound c).After-work_at)
    c.requires call.sound call.keeps call.question call.place c.find.new.self c.in-Found.id found
    (ap table c.find.ensures.same) (ap (λ decider. decider.facts) c.find.ensures.same)
    c.in_ok-find-in-Found.ensures.kept c.in_ok-find-in-Found.ensures.list

pub returns-in_ok-find-in-Found-clause-keeps : goal.returns-in_ok-find-in-Found-clause-keeps
returns-in_ok-find-in-Found-clause-keeps c =
    let call = c.work_at.ensures in
    let found = rw c.in-Found.is at c.in_ok-work_at.ensures.doing in
    still_keeps (nodes c.args.graph.now) c.args.self.now c.work_at.new.self c.deref_mut.result.now c.work_at.new.frame c.pop.new.self
    c.args.frames.now (begun (goal.at.returns-in_ok-find-in-Found-clause-keeps c).After-work_at)
    c.requires call.sound call.keeps call.question call.place c.find.new.self c.in-Found.id found
    (ap table c.find.ensures.same) (ap (λ decider. decider.facts) c.find.ensures.same)
    c.in_ok-find-in-Found.ensures.kept c.in_ok-find-in-Found.ensures.list

pub returns-in_ok-find-in-Found-clause-ran : goal.returns-in_ok-find-in-Found-clause-ran
returns-in_ok-find-in-Found-clause-ran c =
    let call = c.work_at.ensures in
    let found = rw c.in-Found.is at c.in_ok-work_at.ensures.doing in
    (gone_by_element (nodes c.args.graph.now) c.args.self.now c.work_at.new.self c.deref_mut.result.now c.work_at.new.frame c.pop.new.self
    c.args.frames.now (begun (goal.at.returns-in_ok-find-in-Found-clause-ran c).After-work_at)
    c.requires call.sound call.keeps call.question call.place c.find.new.self c.in-Found.id found
    (ap table c.find.ensures.same) (ap (λ decider. decider.facts) c.find.ensures.same)
    c.in_ok-find-in-Found.ensures.kept c.in_ok-find-in-Found.ensures.list).0

pub returns-in_ok-find-in-Found-clause-gone : goal.returns-in_ok-find-in-Found-clause-gone
returns-in_ok-find-in-Found-clause-gone c =
    let call = c.work_at.ensures in
    let found = rw c.in-Found.is at c.in_ok-work_at.ensures.doing in
    (gone_by_element (nodes c.args.graph.now) c.args.self.now c.work_at.new.self c.deref_mut.result.now c.work_at.new.frame c.pop.new.self
    c.args.frames.now (begun (goal.at.returns-in_ok-find-in-Found-clause-gone c).After-work_at)
    c.requires call.sound call.keeps call.question call.place c.find.new.self c.in-Found.id found
    (ap table c.find.ensures.same) (ap (λ decider. decider.facts) c.find.ensures.same)
    c.in_ok-find-in-Found.ensures.kept c.in_ok-find-in-Found.ensures.list).1
