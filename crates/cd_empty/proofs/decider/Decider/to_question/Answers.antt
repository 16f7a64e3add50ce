use Rattle.std.proofs.Common.{arith}
use Rattle.cd_graph.specs.Nodes.{nodes}
use Rattle.cd_empty.proofs.ElementsKept.{keeps_then}
use Rattle.cd_empty.proofs.ProgressOfRuns.{stopped_after_work}
use Rattle.cd_empty.proofs.RunningDeciders.{runs_then}
use Rattle.cd_empty.proofs.decider.Decider.to_question.Goals as goal

pub returns-in_default : goal.returns-in_default
returns-in_default c =
    let before = c.args.self.now in
    let now = c.work.self in
    let after = c.step.new.self in
    let frames = c.args.frames.now in
    let some = c.work.frames in
    let more = c.step.new.frames in
    let so_far = c.work.invariant in
    let call = c.in_ok-went.ensures in record {
      ran = runs_then (nodes c.args.graph.now) before now after frames some more so_far.ran call.ran;
      stopped = stopped_after_work before now after frames some more c.in_ok-went.went so_far.found so_far.listed c.in_default.not-Worked call.gone;
      few = omega arith;
      sound = c.step.ensures.sound;
      keeps = keeps_then before now after so_far.keeps c.step.ensures.keeps;
    }
