use Rattle.std.proofs.Common.{◌≡◌}
use Rattle.cd_graph.specs.Nodes.{nodes}
use Rattle.cd_rules.specs.Weight.{frames_weight}
use Rattle.cd_empty.specs.Inner.PlainFrame.{state_of}
use Rattle.cd_empty.specs.Inner.Running.{Keeps, RunsOn}
use Rattle.cd_empty.specs.Kept.{witnesses}
use Rattle.cd_empty.proofs.decider.Decider.to_question.Given as goal

abbrev pub invariant-work : goal.invariant-work
invariant-work l = record {
  ran : RunsOn (nodes l.graph) l.fn.self l.self l.fn.frames l.frames;
  keeps : Keeps l.fn.self l.self;
  found : witnesses l.self ≡ witnesses l.fn.self;
  listed : l.self.list ≡ l.fn.self.list;
}

abbrev pub decreases-work : goal.decreases-work
decreases-work l = frames_weight (state_of l.self l.frames).frames
