use Rattle.std.proofs.Common.{◌≡◌, ◌-◌, ◌^◌, length}
use Rattle.cd_graph.specs.Nodes.{nodes}
use Rattle.cd_empty.specs.Inner.Running.{Keeps, RunsOn}
use Rattle.cd_empty.specs.Kept.{witnesses}
use Rattle.cd_empty.proofs.decider.Decider.to_element.Given as goal

abbrev pub invariant-questions : goal.invariant-questions
invariant-questions l = record {
  ran : RunsOn (nodes l.graph) l.fn.self l.self l.fn.frames l.frames;
  keeps : Keeps l.fn.self l.self;
  found : witnesses l.self ≡ witnesses l.fn.self;
}

abbrev pub decreases-questions : goal.decreases-questions
decreases-questions l = 2 ^ 64 - length l.self.list
