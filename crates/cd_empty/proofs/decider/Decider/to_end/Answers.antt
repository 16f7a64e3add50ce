use Rattle.cd_graph.specs.Nodes.{nodes}
use Rattle.cd_empty.proofs.ElementsKept.{keeps_then}
use Rattle.cd_empty.proofs.RunningDeciders.{runs_then}
use Rattle.cd_empty.proofs.decider.Decider.to_end.Goals as goal

pub elements-preserved : goal.elements-preserved
elements-preserved c = record {
  ran = runs_then (nodes c.args.graph.now) c.args.self.now c.elements.self c.to_element.new.self
      c.args.frames.now c.elements.frames c.to_element.new.frames c.elements.invariant.ran c.in_ok-to_element.ensures.ran;
  keeps = keeps_then c.args.self.now c.elements.self c.to_element.new.self c.elements.invariant.keeps c.to_element.ensures.keeps;
}

pub returns-clause-ran : goal.returns-clause-ran
returns-clause-ran c = runs_then (nodes c.args.graph.now) c.args.self.now c.elements.self c.to_element.new.self
    c.args.frames.now c.elements.frames c.to_element.new.frames c.elements.invariant.ran c.in_ok-to_element.ensures.ran
