use Rattle.std.proofs.Common.{◌-◌, ◌^◌, length}
use Rattle.cd_graph.specs.Nodes.{nodes}
use Rattle.cd_empty.specs.Inner.Running.{Keeps, RunsOn}
use Rattle.cd_empty.specs.Kept.{witnesses}
use Rattle.cd_empty.proofs.decider.Decider.to_end.Given as goal

abbrev pub invariant-elements : goal.invariant-elements
invariant-elements l = record {
  ran : RunsOn (nodes l.graph) l.fn.self l.self l.fn.frames l.frames;
  keeps : Keeps l.fn.self l.self;
}

abbrev pub decreases-elements : goal.decreases-elements
decreases-elements l = 2 ^ 64 - length (witnesses l.self)
